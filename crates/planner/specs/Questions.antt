-- What the planner's functions are asked, and how their answers are read. Assumes nothing.
use Rattle.std.specs.Prelude.{Option as Maybe, None, Some, ℕ, ◌^◌, ◌≤◌, ◌<◌, ◌≡◌, true, cond, List, length, take}
use Rattle.std.proofs.Math.Option.{Option, none, some}
use Rattle.sets.specs.Places.{list_of}
use Rattle.sets.specs.Sets.{Set, has, within}
use Rattle.records.specs.Limits.{most_jobs}
use Rattle.records.specs.Jobs.{job_at}
use Rattle.records.specs.declared.job.Job.{Job}
use Rattle.records.specs.declared.range.Range.{Range}
use Rattle.search.specs.Search.{workload}
use Rattle.assignment.specs.Layers.{Standing}
use Rattle.assignment.specs.Plan.{quanta_for}
use Rattle.planner.specs.declared.question.Question.{Question}
use Rattle.planner.specs.declared.question.QuantaSearch.{QuantaSearch}
use Rattle.planner.specs.declared.question.QuantaSearch.TheVariants.{PerJob}

-- The list of jobs.
abbrev pub listed : Question → List Job
listed question = take question.n question.workload.jobs

-- The lowest quantum for the jobs of a set, 0 for the others.
abbrev pub lowest_quanta : ℕ → Set → List ℕ
lowest_quanta low set = list_of (λ i. cond (set i) low 0) most_jobs

-- The search for quanta that is asked for: `finds left s` are the quanta with which the set s of the jobs left can be taken.
abbrev pub finds_by : QuantaSearch → List Job → ℕ → ℕ → ℕ → ℕ → Option (List ℕ)
finds_by PerJob jobs low high = quanta_for jobs low high

abbrev pub finds : Question → ℕ → ℕ → Option (List ℕ)
finds question = finds_by question.search (listed question) question.range.low question.range.high

-- What is used of an accepted list and range.
pub record Accepted (question : Question) : Type 0 where
  pub table : length question.workload.jobs ≡ most_jobs
  pub few : question.n ≤ most_jobs
  pub whole : question.workload ≡ workload question.workload.jobs
  pub costs : (k : ℕ) → k < question.n → 0 < (job_at question.workload.jobs k).cost
  pub low : 0 < question.range.low
  pub ordered : question.range.low ≤ question.range.high

-- The same of a table of jobs, their number and a range.
pub record Sound (jobs : List Job) (n : ℕ) (range : Range) : Type 0 where
  pub some : 1 ≤ n
  pub few : n ≤ most_jobs
  pub costs : (k : ℕ) → k < n → 0 < (job_at jobs k).cost
  pub low : 0 < range.low
  pub ordered : range.low ≤ range.high

-- A layer and a set above it, of the list's jobs.
pub record Laid (question : Question) (layer above : ℕ) : Type 0 where
  pub accepted : Accepted question
  pub inside : layer < 2 ^ question.n
  pub over : above < 2 ^ question.n

-- The pending jobs are of the layer, and the quanta stand as settling leaves them.
pub record Pending (question : Question) (layer above pending : ℕ) (quanta : List ℕ) : Type 0 where
  pub laid : Laid question layer above
  pub sub : within pending layer ≡ true
  pub standing : Standing (listed question) question.range.low question.range.high (has layer) (has above) quanta

-- The quanta of n jobs, or none.
abbrev pub offered : ℕ → Maybe (List ℕ) → Option (List ℕ)
offered n (Some quanta) = some (take n quanta)
offered n None = none
