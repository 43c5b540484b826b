-- The entries to_kernel and from_kernel: what they answer, what they write, and which refusal applies first. Assumes nothing.
use Rattle.std.specs.Prelude.{ℕ, Result, Ok, Err, ◌*◌, List, [], ◌∷◌, ◌++◌, map, eqb, length}
use Rattle.records.specs.Refusals.{Answer, given, Tests, outcome, answer, turned}
use Rattle.records.specs.Records.{written, room_tests}
use Rattle.records.specs.Jobs.{job_list}
use Rattle.records.specs.Calls.{Asked, call_tests, question}
use Rattle.records.specs.declared.job.Job.{Job}
use Rattle.records.specs.declared.refusal.Refusal.{Refusal}
use Rattle.configuration.specs.declared.setting.Setting.{Setting}
use Rattle.configuration.specs.Settings.{setting_size, setting_bytes}
use Rattle.configuration.specs.Blocks.{settings_of, hand_in_tests}
use Rattle.kernel.specs.declared.priority.KernelPriority.{KernelPriority}
use Rattle.kernel.specs.declared.record.KernelRecord.{KernelRecord}
use Rattle.kernel.specs.declared.block.KernelTable.{KernelTable}
use Rattle.kernel.specs.Priorities.{priority_tests}
use Rattle.kernel.specs.KernelRecords.{kernel_size, kernel_bytes, kernels_in, kernel_table, to_kernel_record, to_setting}
use Rattle.kernel.specs.KernelConfiguration.{kernel_tests}

-- ---- the way in: a job block, a range and the priorities

-- Refusals 1, 2, 3, 5, 6 and 13.
abbrev pub loader_tests : List ℕ → ℕ → ℕ → KernelPriority → KernelPriority → Tests
loader_tests jobs low high lowest highest = call_tests jobs low high ++ priority_tests (length (job_list jobs)) lowest highest

-- The answer of read_call.
abbrev pub read_loader_call : List ℕ → ℕ → ℕ → KernelPriority → KernelPriority → Answer Asked
read_loader_call jobs low high lowest highest = answer (loader_tests jobs low high lowest highest) (question jobs low high)

-- ---- the way in: a kernel block for a list of jobs

-- The kernel records of a block, one per job.
abbrev pub kernels_for : List Job → List ℕ → List KernelRecord
kernels_for jobs kernel = kernels_in (length jobs) kernel

-- Refusals 7, 8, 14, 9 and 10 of a block.
abbrev pub kernel_block_tests : List Job → ℕ → ℕ → KernelPriority → List ℕ → Tests
kernel_block_tests jobs low high highest kernel =
    (eqb (length kernel) (kernel_size * length jobs), 7) ∷ kernel_tests jobs low high highest (kernels_for jobs kernel)

-- What read_kernels answers, in 01's numbers and values: the number of records; and the table, blank where there is none.
abbrev pub kernels_outcome : Result KernelTable Refusal → Answer ℕ × List KernelRecord
kernels_outcome (Ok kernels) = (given kernels.count, kernels.table)
kernels_outcome (Err refusal) = turned refusal (kernel_table [])

unfoldable pub read_kernels : List Job → ℕ → ℕ → KernelPriority → List ℕ → Answer ℕ × List KernelRecord
read_kernels jobs low high highest kernel =
    outcome (kernel_block_tests jobs low high highest kernel) (length jobs) (kernel_table (kernels_for jobs kernel)) (kernel_table [])

-- ---- the entries

-- The kernel records of a configuration block, and the settings of a kernel block, for a job block.
abbrev pub kernels_of : List ℕ → KernelPriority → List ℕ → List KernelRecord
kernels_of jobs highest configuration = map (to_kernel_record highest) (settings_of jobs configuration)

abbrev pub settings_back : List ℕ → KernelPriority → List ℕ → List Setting
settings_back jobs highest kernel = map (to_setting highest) (kernels_for (job_list jobs) kernel)

-- Refusals 1 2 3 5 6 13 7 8 9 10 11 12.
abbrev pub to_kernel_tests : List ℕ → ℕ → ℕ → KernelPriority → KernelPriority → List ℕ → ℕ → Tests
to_kernel_tests jobs low high lowest highest configuration room =
    loader_tests jobs low high lowest highest ++ (hand_in_tests (job_list jobs) low high configuration ++ room_tests (kernel_size * length (job_list jobs)) room)

-- The outcome of to_kernel: done, and the output at exit.
unfoldable pub to_kernel_outcome : List ℕ → ℕ → ℕ → KernelPriority → KernelPriority → List ℕ → List ℕ → Answer (Unit {0}) × List ℕ
to_kernel_outcome jobs low high lowest highest configuration output =
    outcome (to_kernel_tests jobs low high lowest highest configuration (length output)) tt (written kernel_size kernel_bytes (kernels_of jobs highest configuration) output) output

-- Refusals 1 2 3 5 6 13 7 8 14 9 10 12. Of accepted kernel records each job is placed, so that 11 cannot occur.
abbrev pub from_kernel_tests : List ℕ → ℕ → ℕ → KernelPriority → KernelPriority → List ℕ → ℕ → Tests
from_kernel_tests jobs low high lowest highest kernel room =
    loader_tests jobs low high lowest highest ++ (kernel_block_tests (job_list jobs) low high highest kernel ++ room_tests (setting_size * length (job_list jobs)) room)

-- The outcome of from_kernel: done, and the output at exit.
unfoldable pub from_kernel_outcome : List ℕ → ℕ → ℕ → KernelPriority → KernelPriority → List ℕ → List ℕ → Answer (Unit {0}) × List ℕ
from_kernel_outcome jobs low high lowest highest kernel output =
    outcome (from_kernel_tests jobs low high lowest highest kernel (length output)) tt (written setting_size setting_bytes (settings_back jobs highest kernel) output) output
