-- When what is said of a refusal is true: which sentence it is, with which numbers, and what then holds of the record. Assumes nothing.
use Rattle.std.specs.Prelude.{ℕ, ◌/◌, ◌%◌, ◌≤◌, ◌<◌, ◌≡◌, ◌⊎◌}
use Rattle.records.specs.Limits.{longest_period, longest_deadline, longest_quantum, most_jobs}
use Rattle.records.specs.Jobs.{job_size}
use Rattle.records.specs.declared.job.Job.{Job}
use Rattle.configuration.specs.Settings.{not_placed, fifo, round_robin, setting_size}
use Rattle.configuration.specs.declared.setting.Setting.{Setting}
use Rattle.limits.specs.declared.Limits.{Limits}
use Rattle.kernel.specs.Priorities.{spanned}
use Rattle.kernel.specs.declared.priority.KernelPriority.{KernelPriority}
use Rattle.kernel.specs.declared.record.KernelRecord.{KernelRecord}
use Rattle.reasons.specs.declared.reason.Sentence.{Sentence}
use Rattle.reasons.specs.declared.reason.Sentence.TheVariants.{NoJobs, JobBytes, ManyJobs, ZeroId, IdNotAbove, ZeroCost, CostOverDeadline, CostOverPeriod, LongPeriod, LongDeadline, ZeroQuantum, EmptyRange, LongQuantum, SettingCount, OtherId, NumbersOfNone, NoPolicy, LevelOutside, FifoQuantum, QuantumOutside, FifoShares, Alone, NotPlaced, EmptyPriorities, FewPriorities, PriorityOutside, KernelPolicy, FifoSharesPriority, AlonePriority, GateJobs, GateQuantum}
use Rattle.reasons.specs.declared.reason.Reason.{Reason}
use Rattle.reasons.specs.Reasons.{reason_of, on_whole, lowest_top}

-- Of the times of the job at a place.
abbrev pub TrueOfTimes : ℕ → Job → Reason → Type 0
TrueOfTimes at job r =
    ((r ≡ reason_of ZeroCost at 0 0 0) × (job.cost ≡ 0))
    ⊎ (((r ≡ reason_of CostOverDeadline at job.cost job.deadline 0) × (job.deadline < job.cost))
    ⊎ (((r ≡ reason_of CostOverPeriod at job.cost job.period 0) × (job.period < job.cost))
    ⊎ (((r ≡ reason_of LongPeriod at job.period longest_period 0) × (longest_period < job.period))
    ⊎ ((r ≡ reason_of LongDeadline at job.deadline longest_deadline 0) × (longest_deadline < job.deadline)))))

-- Of a job, `before` being the id of the job before it.
abbrev pub TrueOfJob : ℕ → ℕ → Job → Reason → Type 0
TrueOfJob at before job r =
    ((r ≡ reason_of ZeroId at 0 0 0) × (job.id ≡ 0))
    ⊎ (((r ≡ reason_of IdNotAbove at job.id before 0) × (job.id ≤ before))
    ⊎ TrueOfTimes at job r)

-- Of a range, and of the sizes of the blocks.
abbrev pub TrueOfRange : ℕ → ℕ → Reason → Type 0
TrueOfRange low high r =
    ((r ≡ on_whole ZeroQuantum 0 0) × (low ≡ 0))
    ⊎ (((r ≡ on_whole EmptyRange low high) × (high < low))
    ⊎ ((r ≡ on_whole LongQuantum high longest_quantum) × (longest_quantum < high)))

abbrev pub TrueOfSize : ℕ → Reason → Type 0
TrueOfSize size r =
    ((r ≡ on_whole NoJobs 0 0) × (size ≡ 0))
    ⊎ (((r ≡ on_whole ManyJobs (size / job_size) 0) × (size % job_size ≡ 0) × (most_jobs < size / job_size))
    ⊎ ((r ≡ on_whole JobBytes size 0) × (size % job_size ≡ 0 → ⊥)))

-- Of n jobs and a range up to `high`, for a box with limits.
abbrev pub TrueOfLimits : Limits → ℕ → ℕ → Reason → Type 0
TrueOfLimits limits n high r =
    ((r ≡ on_whole GateJobs n limits.jobs) × (limits.jobs < n))
    ⊎ ((r ≡ on_whole GateQuantum high limits.quantum) × (limits.quantum < high))

-- `bytes` is the sentence of a block that is not made up of records.
abbrev pub TrueOfCount : Sentence → ℕ → ℕ → Reason → Type 0
TrueOfCount bytes size n r =
    ((r ≡ on_whole SettingCount (size / setting_size) n) × (size % setting_size ≡ 0) × (size / setting_size ≡ n → ⊥))
    ⊎ ((r ≡ on_whole bytes size 0) × (size % setting_size ≡ 0 → ⊥))

-- Of the quantum of a placed job at a place.
abbrev pub TrueOfQuantum : ℕ → ℕ → ℕ → ℕ → ℕ → Reason → Type 0
TrueOfQuantum at low high policy quantum r =
    ((r ≡ reason_of FifoQuantum at quantum 0 0) × (policy ≡ fifo) × (quantum ≡ 0 → ⊥))
    ⊎ ((r ≡ reason_of QuantumOutside at quantum low high) × (policy ≡ round_robin) × ((quantum < low) ⊎ (high < quantum)))

-- Of the shape of the setting at a place, n being the number of jobs.
abbrev pub TrueOfShape : ℕ → ℕ → ℕ → ℕ → Setting → Reason → Type 0
TrueOfShape at n low high setting r =
    ((r ≡ reason_of NumbersOfNone at setting.level setting.quantum 0) × (setting.policy ≡ not_placed) × ((setting.level ≡ 0 → ⊥) ⊎ (setting.quantum ≡ 0 → ⊥)))
    ⊎ (((r ≡ reason_of NoPolicy at setting.policy 0 0) × (round_robin < setting.policy))
    ⊎ (((r ≡ reason_of LevelOutside at setting.level n 0) × ((setting.level ≡ 0) ⊎ (n < setting.level)))
    ⊎ TrueOfQuantum at low high setting.policy setting.quantum r))

-- Of a setting, `sharing` being how many jobs are on its level.
abbrev pub TrueOfSetting : ℕ → ℕ → ℕ → ℕ → ℕ → Job → Setting → Reason → Type 0
TrueOfSetting at n low high sharing job setting r =
    ((r ≡ reason_of OtherId at setting.id job.id 0) × (setting.id ≡ job.id → ⊥))
    ⊎ (TrueOfShape at n low high setting r
    ⊎ (((r ≡ reason_of FifoShares at setting.level 0 0) × (setting.policy ≡ fifo) × (sharing ≡ 1 → ⊥))
    ⊎ (((r ≡ reason_of Alone at setting.level 0 0) × (setting.policy ≡ round_robin) × (sharing < 2))
    ⊎ ((r ≡ reason_of NotPlaced at setting.id 0 0) × (setting.policy ≡ not_placed)))))

-- Of a lowest and a highest priority for n jobs.
abbrev pub TrueOfPriorities : ℕ → KernelPriority → KernelPriority → Reason → Type 0
TrueOfPriorities n lowest highest r =
    ((r ≡ on_whole EmptyPriorities lowest.0 highest.0) × (highest.0 < lowest.0))
    ⊎ ((r ≡ reason_of FewPriorities most_jobs lowest.0 highest.0 n) × (lowest.0 ≤ highest.0) × (spanned lowest highest < n))

-- Of a kernel record, n being the number of jobs, and `sharing` how many of them have its priority.
abbrev pub TrueOfKernel : ℕ → ℕ → ℕ → ℕ → KernelPriority → ℕ → Job → KernelRecord → Reason → Type 0
TrueOfKernel at n low high highest sharing job kernel r =
    ((r ≡ reason_of OtherId at kernel.id job.id 0) × (kernel.id ≡ job.id → ⊥))
    ⊎ (((r ≡ reason_of PriorityOutside at kernel.priority.0 (lowest_top n highest) highest.0) × ((kernel.priority.0 < lowest_top n highest) ⊎ (highest.0 < kernel.priority.0)))
    ⊎ (((r ≡ reason_of KernelPolicy at kernel.policy 0 0) × (kernel.policy ≡ fifo → ⊥) × (kernel.policy ≡ round_robin → ⊥))
    ⊎ (TrueOfQuantum at low high kernel.policy kernel.quantum r
    ⊎ (((r ≡ reason_of FifoSharesPriority at kernel.priority.0 0 0) × (kernel.policy ≡ fifo) × (sharing ≡ 1 → ⊥))
    ⊎ ((r ≡ reason_of AlonePriority at kernel.priority.0 0 0) × (kernel.policy ≡ round_robin) × (sharing < 2))))))
