-- Why a list, a call past limits, a hand-in, priorities or a kernel block are refused: which sentence is said, of which record, and with
-- which numbers. Assumes nothing.
use Rattle.std.specs.Prelude.{ℕ, ◌+◌, ◌-◌, ◌/◌, ◌%◌, min, cond, List, [], ◌∷◌, eqb, ltb}
use Rattle.sets.specs.Places.{failing}
use Rattle.records.specs.Limits.{longest_period, longest_deadline, longest_quantum, most_jobs}
use Rattle.records.specs.Jobs.{job_size, job_at, id_before, job_ok_at}
use Rattle.records.specs.declared.job.Job.{Job}
use Rattle.records.specs.declared.judge.JobRule.{JobRule}
use Rattle.records.specs.declared.judge.JobRule.TheVariants.{Id, Order, Times}
use Rattle.configuration.specs.Settings.{not_placed, fifo, round_robin, setting_size, setting_at}
use Rattle.configuration.specs.Configuration.{setting_ok}
use Rattle.configuration.specs.declared.setting.Setting.{Setting}
use Rattle.configuration.specs.declared.judge.SettingRule.{SettingRule}
use Rattle.configuration.specs.declared.judge.SettingRule.TheVariants.{Id as SettingId, Shape, Sharing, Placed}
use Rattle.limits.specs.declared.Limits.{Limits}
use Rattle.kernel.specs.KernelRecords.{kernel_at}
use Rattle.kernel.specs.KernelConfiguration.{kernel_ok}
use Rattle.kernel.specs.declared.priority.KernelPriority.{KernelPriority}
use Rattle.kernel.specs.declared.record.KernelRecord.{KernelRecord}
use Rattle.kernel.specs.declared.judge.KernelRule.{KernelRule}
use Rattle.kernel.specs.declared.judge.KernelRule.TheVariants.{Id as KernelId, Top, Shape as KernelShape, Sharing as KernelSharing}
use Rattle.reasons.specs.declared.reason.Sentence.{Sentence}
use Rattle.reasons.specs.declared.reason.Sentence.TheVariants.{NoJobs, JobBytes, ManyJobs, ZeroId, IdNotAbove, ZeroCost, CostOverDeadline, CostOverPeriod, LongPeriod, LongDeadline, ZeroQuantum, EmptyRange, LongQuantum, SettingBytes, SettingCount, OtherId, NumbersOfNone, NoPolicy, LevelOutside, FifoQuantum, QuantumOutside, FifoShares, Alone, NotPlaced, EmptyPriorities, FewPriorities, KernelBytes, PriorityOutside, KernelPolicy, FifoSharesPriority, AlonePriority, GateJobs, GateQuantum, Unknown}
use Rattle.reasons.specs.declared.reason.Reason.{Reason}

-- A sentence about the record at a place, with at most three numbers.
abbrev pub reason_of : Sentence → ℕ → ℕ → ℕ → ℕ → Reason
reason_of sentence at first second third = record { sentence = sentence; at = at; numbers = first ∷ second ∷ third ∷ 0 ∷ [] }

-- One that is about no record.
abbrev pub on_whole : Sentence → ℕ → ℕ → Reason
on_whole sentence first second = reason_of sentence most_jobs first second 0

abbrev pub unknown : Reason
unknown = on_whole Unknown 0 0

-- ---- a list of jobs and a range

-- Refusal 1 of a block of so many bytes; a list as text without a job has none.
unfoldable pub size_reason : ℕ → Reason
size_reason size =
    cond (eqb size 0) (on_whole NoJobs 0 0)
    (cond (eqb (size % job_size) 0) (on_whole ManyJobs (size / job_size) 0) (on_whole JobBytes size 0))

-- Refusal 5 of the job at a place: the first of its parts that does not hold.
unfoldable pub times_reason : ℕ → Job → Reason
times_reason at job =
    cond (eqb job.cost 0) (reason_of ZeroCost at 0 0 0)
    (cond (ltb job.deadline job.cost) (reason_of CostOverDeadline at job.cost job.deadline 0)
    (cond (ltb job.period job.cost) (reason_of CostOverPeriod at job.cost job.period 0)
    (cond (ltb longest_period job.period) (reason_of LongPeriod at job.period longest_period 0) (reason_of LongDeadline at job.deadline longest_deadline 0))))

-- Refusals 2, 3 and 5: the first job of which the rule does not hold, `before` being the id before it.
abbrev pub job_reason_at : JobRule → ℕ → ℕ → Job → Reason
job_reason_at Id at before job = reason_of ZeroId at 0 0 0
job_reason_at Order at before job = reason_of IdNotAbove at job.id before 0
job_reason_at Times at before job = times_reason at job

unfoldable pub job_reason : JobRule → List Job → ℕ → Reason
job_reason rule jobs n =
    let at = failing (job_ok_at rule jobs) (min n most_jobs) in
    cond (ltb at most_jobs) (job_reason_at rule at (id_before jobs at) (job_at jobs at)) unknown

-- Refusal 6: the first of its parts that does not hold.
unfoldable pub range_reason : ℕ → ℕ → Reason
range_reason low high =
    cond (eqb low 0) (on_whole ZeroQuantum 0 0) (cond (ltb high low) (on_whole EmptyRange low high) (on_whole LongQuantum high longest_quantum))

-- Why a list of n jobs in a block of `size` bytes, and a range, get the refusal of this number.
unfoldable pub list_reason : ℕ → ℕ → List Job → ℕ → ℕ → ℕ → Reason
list_reason number size jobs n low high =
    cond (eqb number 1) (size_reason size)
    (cond (eqb number 2) (job_reason Id jobs n)
    (cond (eqb number 3) (job_reason Order jobs n)
    (cond (eqb number 5) (job_reason Times jobs n) (cond (eqb number 6) (range_reason low high) unknown))))

-- ---- limits

-- Refusal 15 of n jobs and a range up to `high`: the first of its parts that does not hold, with the limit.
unfoldable pub past_reason : Limits → ℕ → ℕ → Reason
past_reason limits n high = cond (ltb limits.jobs n) (on_whole GateJobs n limits.jobs) (on_whole GateQuantum high limits.quantum)

-- Why a call of n jobs and a range up to `high` gets the refusal of this number from a box with limits.
unfoldable pub limits_reason : ℕ → Limits → ℕ → ℕ → Reason
limits_reason number limits n high = cond (eqb number 15) (past_reason limits (min n most_jobs) high) unknown

-- ---- a configuration

-- Refusal 7 of a block of so many bytes for n jobs, with the sentence of a block that is not made up of records; kernel records have the
-- size of settings.
unfoldable pub count_reason : Sentence → ℕ → ℕ → Reason
count_reason bytes size n = cond (eqb (size % setting_size) 0) (on_whole SettingCount (size / setting_size) n) (on_whole bytes size 0)

-- Refusal 9 of the quantum of a placed job at a place, by its policy.
unfoldable pub quantum_reason : ℕ → ℕ → ℕ → ℕ → ℕ → Reason
quantum_reason at low high policy quantum = cond (eqb policy fifo) (reason_of FifoQuantum at quantum 0 0) (reason_of QuantumOutside at quantum low high)

-- Refusal 9 of the setting at a place, n being the number of jobs.
unfoldable pub shape_reason : ℕ → ℕ → ℕ → ℕ → Setting → Reason
shape_reason at n low high setting =
    cond (eqb setting.policy not_placed) (reason_of NumbersOfNone at setting.level setting.quantum 0)
    (cond (ltb round_robin setting.policy) (reason_of NoPolicy at setting.policy 0 0)
    (cond (eqb setting.level 0) (reason_of LevelOutside at setting.level n 0)
    (cond (ltb n setting.level) (reason_of LevelOutside at setting.level n 0) (quantum_reason at low high setting.policy setting.quantum))))

-- Refusal 10 of the setting at a place.
unfoldable pub sharing_reason : ℕ → Setting → Reason
sharing_reason at setting = cond (eqb setting.policy fifo) (reason_of FifoShares at setting.level 0 0) (reason_of Alone at setting.level 0 0)

-- Refusals 8 to 11: the first setting of which the rule does not hold.
abbrev pub setting_reason_at : SettingRule → ℕ → ℕ → ℕ → ℕ → Job → Setting → Reason
setting_reason_at SettingId at n low high job setting = reason_of OtherId at setting.id job.id 0
setting_reason_at Shape at n low high job setting = shape_reason at n low high setting
setting_reason_at Sharing at n low high job setting = sharing_reason at setting
setting_reason_at Placed at n low high job setting = reason_of NotPlaced at setting.id 0 0

unfoldable pub setting_reason : SettingRule → List Job → List Setting → ℕ → ℕ → ℕ → Reason
setting_reason rule jobs settings n low high =
    let count = min n most_jobs in
    let at = failing (setting_ok rule count jobs low high settings) count in
    cond (ltb at most_jobs) (setting_reason_at rule at count low high (job_at jobs at) (setting_at settings at)) unknown

-- Why a configuration block of `size` bytes with these settings, for n jobs and a range, gets the refusal of this number.
unfoldable pub hand_in_reason : ℕ → ℕ → List Job → List Setting → ℕ → ℕ → ℕ → Reason
hand_in_reason number size jobs settings n low high =
    cond (eqb number 7) (count_reason SettingBytes size (min n most_jobs))
    (cond (eqb number 8) (setting_reason SettingId jobs settings n low high)
    (cond (eqb number 9) (setting_reason Shape jobs settings n low high)
    (cond (eqb number 10) (setting_reason Sharing jobs settings n low high) (cond (eqb number 11) (setting_reason Placed jobs settings n low high) unknown))))

-- ---- priorities and kernel records

-- Refusal 13 of a lowest and a highest priority for n jobs: the first of its parts that does not hold.
unfoldable pub span_reason : ℕ → KernelPriority → KernelPriority → Reason
span_reason n lowest highest =
    cond (ltb highest.0 lowest.0) (on_whole EmptyPriorities lowest.0 highest.0) (reason_of FewPriorities most_jobs lowest.0 highest.0 n)

-- Why a lowest and a highest priority for n jobs get the refusal of this number.
unfoldable pub priorities_reason : ℕ → ℕ → KernelPriority → KernelPriority → Reason
priorities_reason number n lowest highest = cond (eqb number 13) (span_reason (min n most_jobs) lowest highest) unknown

-- The lowest of the top n values; 0 where there are fewer than n.
unfoldable pub lowest_top : ℕ → KernelPriority → ℕ
lowest_top n highest = highest.0 + 1 - n

-- Refusal 14 of the kernel record at a place, n being the number of jobs.
abbrev pub top_reason : ℕ → ℕ → KernelPriority → KernelRecord → Reason
top_reason at n highest kernel = reason_of PriorityOutside at kernel.priority.0 (lowest_top n highest) highest.0

-- Refusal 9 of the kernel record at a place.
unfoldable pub kernel_shape_reason : ℕ → ℕ → ℕ → KernelRecord → Reason
kernel_shape_reason at low high kernel =
    cond (eqb kernel.policy not_placed) (reason_of KernelPolicy at kernel.policy 0 0)
    (cond (ltb round_robin kernel.policy) (reason_of KernelPolicy at kernel.policy 0 0) (quantum_reason at low high kernel.policy kernel.quantum))

-- Refusal 10 of the kernel record at a place.
unfoldable pub kernel_sharing_reason : ℕ → KernelRecord → Reason
kernel_sharing_reason at kernel =
    cond (eqb kernel.policy fifo) (reason_of FifoSharesPriority at kernel.priority.0 0 0) (reason_of AlonePriority at kernel.priority.0 0 0)

-- Refusals 8, 14, 9 and 10: the first kernel record of which the rule does not hold.
abbrev pub kernel_record_reason_at : KernelRule → ℕ → ℕ → ℕ → ℕ → KernelPriority → Job → KernelRecord → Reason
kernel_record_reason_at KernelId at n low high highest job kernel = reason_of OtherId at kernel.id job.id 0
kernel_record_reason_at Top at n low high highest job kernel = top_reason at n highest kernel
kernel_record_reason_at KernelShape at n low high highest job kernel = kernel_shape_reason at low high kernel
kernel_record_reason_at KernelSharing at n low high highest job kernel = kernel_sharing_reason at kernel

unfoldable pub kernel_record_reason : KernelRule → List Job → List KernelRecord → ℕ → ℕ → ℕ → KernelPriority → Reason
kernel_record_reason rule jobs kernels n low high highest =
    let count = min n most_jobs in
    let at = failing (kernel_ok rule count jobs low high highest kernels) count in
    cond (ltb at most_jobs) (kernel_record_reason_at rule at count low high highest (job_at jobs at) (kernel_at kernels at)) unknown

-- Why a kernel block of `size` bytes with these records, for n jobs, a range and a highest priority, gets the refusal of this number.
unfoldable pub kernel_reason : ℕ → ℕ → List Job → List KernelRecord → ℕ → ℕ → ℕ → KernelPriority → Reason
kernel_reason number size jobs kernels n low high highest =
    cond (eqb number 7) (count_reason KernelBytes size (min n most_jobs))
    (cond (eqb number 8) (kernel_record_reason KernelId jobs kernels n low high highest)
    (cond (eqb number 14) (kernel_record_reason Top jobs kernels n low high highest)
    (cond (eqb number 9) (kernel_record_reason KernelShape jobs kernels n low high highest)
    (cond (eqb number 10) (kernel_record_reason KernelSharing jobs kernels n low high highest) unknown))))
