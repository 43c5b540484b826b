-- The kernel record: "id, policy, priority, quantum, one byte each" (02, E5), and the conversion of settings to it and back. Assumes
-- nothing.
use Rattle.std.specs.Prelude.{ℕ, List, [], ◌∷◌, get_or}
use Rattle.records.specs.Limits.{most_jobs}
use Rattle.records.specs.Records.{chunks, table}
use Rattle.configuration.specs.declared.setting.Setting.{Setting}
use Rattle.kernel.specs.declared.priority.KernelPriority.{KernelPriority}
use Rattle.kernel.specs.declared.record.KernelRecord.{KernelRecord}
use Rattle.kernel.specs.Priorities.{priority_of, level_of}

-- The size of a kernel record in bytes.
abbrev pub kernel_size : ℕ
kernel_size = 4

-- The kernel record in the first bytes of a block, and the bytes of a kernel record.
abbrev pub kernel_of : List ℕ → KernelRecord
kernel_of block = record { id = get_or block 0 0; policy = get_or block 1 0; priority = record { 0 = get_or block 2 0 }; quantum = get_or block 3 0 }

unfoldable pub kernel_bytes : KernelRecord → List ℕ
kernel_bytes kernel = kernel.id ∷ kernel.policy ∷ kernel.priority.0 ∷ kernel.quantum ∷ []

-- The n kernel records of a block.
abbrev pub kernels_in : ℕ → List ℕ → List KernelRecord
kernels_in n block = chunks kernel_size kernel_of n block

-- An entry of a table that holds no kernel record, and the record at a place of a list.
abbrev pub blank_kernel : KernelRecord
blank_kernel = record { id = 0; policy = 0; priority = record { 0 = 0 }; quantum = 0 }

abbrev pub kernel_at : List KernelRecord → ℕ → KernelRecord
kernel_at kernels i = get_or kernels i blank_kernel

abbrev pub priority_at : List KernelRecord → ℕ → ℕ
priority_at kernels i = (kernel_at kernels i).priority.0

-- A table of kernel records, blank past the list.
abbrev pub kernel_table : List KernelRecord → List KernelRecord
kernel_table kernels = table most_jobs blank_kernel kernels

-- ---- there and back: the level becomes a priority, and the priority a level; the rest stays

abbrev pub to_kernel_record : KernelPriority → Setting → KernelRecord
to_kernel_record highest setting =
    record { id = setting.id; policy = setting.policy; priority = priority_of highest (record { 0 = setting.level }); quantum = setting.quantum }

abbrev pub to_setting : KernelPriority → KernelRecord → Setting
to_setting highest kernel =
    record { id = kernel.id; level = (level_of highest kernel.priority).0; policy = kernel.policy; quantum = kernel.quantum }
