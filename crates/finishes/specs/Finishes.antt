-- How one finish is found: by iteration, from a time that no time which equals its demand is below, with estimates from utilisation.
-- `time-least` (proofs/OneFinish) says that this is the least time. Assumes nothing.
use Rattle.std.specs.Prelude.{ℕ, zero, suc, ◌+◌, ◌*◌, ◌/◌, ◌-◌, min, max, cond, not, ◌&&◌, List, eqb, leb, ltb, length, get_or}
use Rattle.sets.specs.Places.{sum_over, list_of}
use Rattle.sets.specs.Sets.{Set}
use Rattle.records.specs.Jobs.{job_at}
use Rattle.records.specs.declared.job.Job.{Job}
use Rattle.response.specs.Demand.{interference}
use Rattle.finishes.specs.declared.capacity.Table.{Table}

-- The whole processor, in the parts by which utilisation is counted.
abbrev pub whole : ℕ
whole = 1048576

-- A job's utilisation, in such parts and rounded down; the whole where it is more.
unfoldable pub utilisation : Job → ℕ
utilisation job = min (job.cost * whole / job.period) whole

abbrev pub utilisations_of : List Job → List ℕ
utilisations_of jobs = list_of (λ i. utilisation (job_at jobs i)) (length jobs)

abbrev pub table_of : List Job → Table
table_of jobs = record { jobs = jobs; utilisations = utilisations_of jobs }

-- The utilisation of a set of jobs.
unfoldable pub load : List ℕ → Set → ℕ
load utilisations set = sum_over (length utilisations) set (λ i. get_or utilisations i 0)

-- What a set of jobs leaves of the processor: the spare capacity below it.
unfoldable pub spare_of : List ℕ → Set → ℕ
spare_of utilisations set = whole - load utilisations set

-- What the delays of a set's jobs add to their work, in parts of a tick: each delay by the job's utilisation.
unfoldable pub delays_of : Table → Set → ℕ
delays_of table set = sum_over (length table.jobs) set (λ i. (job_at table.jobs i).delay * get_or table.utilisations i 0)

-- So much of it counts, as 32 bits hold: a search starts too early by what does not, and never too late.
abbrev pub most_carried : ℕ
most_carried = 4294967295

abbrev pub carried : Table → Set → ℕ
carried table set = min (delays_of table set) most_carried

-- ---- one finish

-- At most n steps of the plain iteration: t gives way to f t as long as that is later and t is at most d.
unfoldable pub steps : (ℕ → ℕ) → ℕ → ℕ → ℕ → ℕ
steps f d zero t = t
steps f d (suc n) t = cond (leb t d) (cond (ltb t (f t)) (steps f d n (f t)) t) t

-- The iteration with an estimate: t gives way to the later of f t and the estimate, as long as f t is later and t is at most d, n times
-- at most; the t that f gives back, else 0.
unfoldable pub climb : (ℕ → ℕ) → (ℕ → ℕ) → ℕ → ℕ → ℕ → ℕ
climb f estimate d zero t = 0
climb f estimate d (suc n) t = cond (leb t d) (cond (ltb t (f t)) (climb f estimate d n (max (f t) (estimate t))) (cond (eqb (f t) t) t 0)) 0

-- The jobs of a set with periods up to the longest that counts as short, and the others.
abbrev pub short_of : List Job → Set → ℕ → Set
short_of jobs set longest i = set i && leb (job_at jobs i).period longest

abbrev pub long_of : List Job → Set → ℕ → Set
long_of jobs set longest i = set i && not (leb (job_at jobs i).period longest)

-- An estimate that no time from t on which equals its demand lies below: the jobs with long periods count as at t, those with short ones
-- by their utilisation of the time and of their delays.
unfoldable pub estimate : Table → Set → ℕ → ℕ → ℕ → ℕ
estimate table above longest own t =
    ((own + interference table.jobs (long_of table.jobs above longest) t) * whole + carried table (short_of table.jobs above longest))
    / max 1 (spare_of table.utilisations (short_of table.jobs above longest))

-- The longest period that counts as short is the time at which estimates begin divided by short_part; they begin after so many plain
-- steps. Both numbers decide how long a search takes, and not what it finds.
abbrev pub short_part : ℕ
short_part = 256

abbrev pub plain_steps : ℕ
plain_steps = 4

-- The least time up to d for own demand beside the interference of the set above, from t on by the iteration with estimates.
unfoldable pub far_time : Table → Set → ℕ → ℕ → ℕ → ℕ
far_time table above own d t =
    climb (λ x. own + interference table.jobs above x) (estimate table above (t / short_part) own) d (suc d) t

-- The same, after some plain steps from t on.
unfoldable pub time_from : Table → Set → ℕ → ℕ → ℕ → ℕ
time_from table above own d t =
    far_time table above own d (steps (λ x. own + interference table.jobs above x) d plain_steps t)

-- The least time up to d for own demand beside the interference of the set above, which leaves so much spare of the processor and whose
-- delays carry so much: where nothing is spare there is none; else none is below what own demand and delays come to by what is spare, and
-- the search starts there, or at `before` if that is later. Without own demand it starts at 1 or at `before`.
unfoldable pub time_for : Table → Set → ℕ → ℕ → ℕ → ℕ → ℕ → ℕ
time_for table above spare carry own d before =
    cond (eqb own 0) (time_from table above own d (max 1 before))
    (cond (eqb spare 0) 0 (time_from table above own d (max ((own * whole + carry) / spare) before)))

-- The last time that is sought: no deadline of the 64 instances of a job of 16-bit times lies past it.
abbrev pub longest_time : ℕ
longest_time = 4194240

-- What the code answers: the time, or 0 where the limit is past the last time that is sought.
abbrev pub time_within : Table → Set → ℕ → ℕ → ℕ → ℕ → ℕ → ℕ
time_within table above spare carry own d before = cond (leb d longest_time) (time_for table above spare carry own d before) 0

-- The same of the work of a set's jobs by a time.
abbrev pub work_by : List Job → Set → ℕ → ℕ
work_by jobs set t = cond (leb t longest_time) (interference jobs set t) 0
