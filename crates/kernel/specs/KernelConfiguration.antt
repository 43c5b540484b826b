-- Which kernel records are accepted for a list of jobs, a range and a highest priority: "Refusals 7 to 11 apply to what is converted, with
-- refusal 9's level test done by 14 for kernel records, where policy 0 always gets 9" (02, E5). Assumes nothing.
use Rattle.std.specs.Prelude.{ℕ, ◌-◌, List, [], ◌∷◌, Bool, ◌&&◌, ◌||◌, leb, ltb, eqb, length}
use Rattle.sets.specs.Places.{every, count}
use Rattle.records.specs.Refusals.{Tests, Accepts}
use Rattle.records.specs.Jobs.{job_at}
use Rattle.records.specs.declared.job.Job.{Job}
use Rattle.configuration.specs.Settings.{not_placed}
use Rattle.configuration.specs.Configuration.{scheduled, may_share}
use Rattle.kernel.specs.declared.priority.KernelPriority.{KernelPriority}
use Rattle.kernel.specs.declared.record.KernelRecord.{KernelRecord}
use Rattle.kernel.specs.declared.judge.KernelRule.{KernelRule}
use Rattle.kernel.specs.declared.judge.KernelRule.TheVariants.{Id, Top, Shape, Sharing}
use Rattle.kernel.specs.KernelRecords.{kernel_at, priority_at}

-- The top n values: the highest, and those that are fewer than n below it.
abbrev pub is_top : ℕ → KernelPriority → KernelPriority → Bool
is_top n highest priority = leb priority.0 highest.0 && ltb (highest.0 - priority.0) n

-- Refusal 14: "a kernel priority is outside the top n values". Policy 0 always gets 9, so 14 does not look at its priority.
unfoldable pub on_top : ℕ → KernelPriority → KernelRecord → Bool
on_top n highest kernel = eqb kernel.policy not_placed || is_top n highest kernel.priority

-- The number of the first n records with a priority.
abbrev pub on_priority : List KernelRecord → ℕ → ℕ → Bool
on_priority kernels priority i = eqb (priority_at kernels i) priority

abbrev pub sharing_priority : ℕ → List KernelRecord → ℕ → ℕ
sharing_priority n kernels priority = count n (on_priority kernels priority)

-- Refusal 10: a policy 1 job is alone on its priority, a policy 2 job is not.
abbrev pub prioritised : ℕ → List KernelRecord → KernelRecord → Bool
prioritised n kernels kernel = may_share kernel.policy (sharing_priority n kernels kernel.priority.0)

-- What a rule asks of the kernel record at place i; refusal 8: the ids are the jobs' ids in order; refusal 9: what it asks of a placed job
-- besides its level.
abbrev pub kernel_ok : KernelRule → ℕ → List Job → ℕ → ℕ → KernelPriority → List KernelRecord → ℕ → Bool
kernel_ok Id n jobs low high highest kernels i = eqb (kernel_at kernels i).id (job_at jobs i).id
kernel_ok Top n jobs low high highest kernels i = on_top n highest (kernel_at kernels i)
kernel_ok Shape n jobs low high highest kernels i = scheduled low high (kernel_at kernels i).policy (kernel_at kernels i).quantum
kernel_ok Sharing n jobs low high highest kernels i = prioritised n kernels (kernel_at kernels i)

-- The rule holds of the kernel record of each job of a list.
abbrev pub all_kernels_ok : KernelRule → List Job → ℕ → ℕ → KernelPriority → List KernelRecord → Bool
all_kernels_ok rule jobs low high highest kernels = every (kernel_ok rule (length jobs) jobs low high highest kernels) (length jobs)

-- Refusals 8, 14, 9 and 10 of kernel records for a list of jobs.
abbrev pub kernel_tests : List Job → ℕ → ℕ → KernelPriority → List KernelRecord → Tests
kernel_tests jobs low high highest kernels =
    (all_kernels_ok Id jobs low high highest kernels, 8)
    ∷ (all_kernels_ok Top jobs low high highest kernels, 14)
    ∷ (all_kernels_ok Shape jobs low high highest kernels, 9)
    ∷ (all_kernels_ok Sharing jobs low high highest kernels, 10)
    ∷ []

-- Kernel records that refusals 7, 8, 14, 9 and 10 let by.
abbrev pub KernelConfiguration : List Job → ℕ → ℕ → KernelPriority → List KernelRecord → Type 0
KernelConfiguration jobs low high highest kernels = Accepts ((eqb (length kernels) (length jobs), 7) ∷ kernel_tests jobs low high highest kernels)
