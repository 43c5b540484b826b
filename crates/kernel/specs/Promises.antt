-- What the two entries promise besides their outcomes, of the blocks that a caller then holds: "Converting a full accepted configuration
-- there and back gives it again, and equally the other way" (02, E5), and who is above whom stays. Assumes nothing.
use Rattle.std.specs.Prelude.{ℕ, ◌*◌, ◌≤◌, ◌<◌, ◌≡◌, ◌↔◌, List, ◌++◌, length, take, drop}
use Rattle.records.specs.Refusals.{Answer, given}
use Rattle.records.specs.Jobs.{job_list}
use Rattle.configuration.specs.declared.setting.Setting.{Setting}
use Rattle.configuration.specs.Settings.{setting_size, level_at}
use Rattle.configuration.specs.Blocks.{settings_of}
use Rattle.kernel.specs.declared.priority.KernelPriority.{KernelPriority}
use Rattle.kernel.specs.declared.record.KernelRecord.{KernelRecord}
use Rattle.kernel.specs.KernelRecords.{kernel_size, priority_at}
use Rattle.kernel.specs.Conversions.{kernels_for, to_kernel_outcome, from_kernel_outcome}

-- Two of n jobs share a level exactly if they share a priority, and the one with the smaller level has the greater priority.
pub record SameLayers (n : ℕ) (settings : List Setting) (kernels : List KernelRecord) : Type 0 where
  pub shared : (i j : ℕ) → i < n → j < n → (level_at settings i ≡ level_at settings j) ↔ (priority_at kernels i ≡ priority_at kernels j)
  pub above : (i j : ℕ) → i < n → j < n → (level_at settings i < level_at settings j) ↔ (priority_at kernels j < priority_at kernels i)

-- The same of a configuration block and a kernel block for a job block.
abbrev pub LayersStay : List ℕ → List ℕ → List ℕ → Type 0
LayersStay jobs configuration kernel = SameLayers (length (job_list jobs)) (settings_of jobs configuration) (kernels_for (job_list jobs) kernel)

-- What an output holds after a block of records has been written to it.
abbrev pub begun : List ℕ → List ℕ → List ℕ
begun block output = block ++ drop (length block) output

-- Of a configuration block and the kernel block that to_kernel gave for it: from_kernel accepts it, and gives the configuration again.
pub record ThereAndBack (jobs : List ℕ) (low high : ℕ) (lowest highest : KernelPriority) (configuration kernel : List ℕ) : Type 0 where
  pub back : (output : List ℕ) → setting_size * length (job_list jobs) ≤ length output → from_kernel_outcome jobs low high lowest highest kernel output ≡ (given tt, begun configuration output)
  pub layers : LayersStay jobs configuration kernel

-- Of a kernel block and the configuration block that from_kernel gave for it: to_kernel accepts it, and gives the kernel block again.
pub record BackAndThere (jobs : List ℕ) (low high : ℕ) (lowest highest : KernelPriority) (kernel configuration : List ℕ) : Type 0 where
  pub there : (output : List ℕ) → kernel_size * length (job_list jobs) ≤ length output → to_kernel_outcome jobs low high lowest highest configuration output ≡ (given tt, begun kernel output)
  pub layers : LayersStay jobs configuration kernel

-- What the entries promise: the outcome, and of the block that every accepted call leaves at the start of the output the above.
pub record ToKernelPromise (jobs : List ℕ) (low high : ℕ) (lowest highest : KernelPriority) (configuration output : List ℕ) (got : Answer (Unit {0}) × List ℕ) : Type 0 where
  pub is : got ≡ to_kernel_outcome jobs low high lowest highest configuration output
  pub back : got.0 ≡ given tt → ThereAndBack jobs low high lowest highest configuration (take (kernel_size * length (job_list jobs)) got.1)

pub record FromKernelPromise (jobs : List ℕ) (low high : ℕ) (lowest highest : KernelPriority) (kernel output : List ℕ) (got : Answer (Unit {0}) × List ℕ) : Type 0 where
  pub is : got ≡ from_kernel_outcome jobs low high lowest highest kernel output
  pub there : got.0 ≡ given tt → BackAndThere jobs low high lowest highest kernel (take (setting_size * length (job_list jobs)) got.1)
