use Prim.Native.Nat.{ℕ}
use mathlib.Core.Path.{◌≡◌, refl, ◌∙◌}
use mathlib.Core.List.{List}
use Rattle.records.specs.declared.job.Job.{Job}
use Rattle.assignment.specs.Plan.{quanta_for}
use Rattle.planner.specs.declared.question.QuantaSearch.{QuantaSearch}
use Rattle.planner.specs.declared.question.QuantaSearch.TheVariants.{PerJob}
use Rattle.planner.specs.Questions.{listed, finds_by}
use Rattle.planner.proofs.quanta.quanta_for.Goals as goal

-- The one search there is.
per-job : (search : QuantaSearch) (jobs : List Job) (low high left s : ℕ) → quanta_for jobs low high left s ≡ finds_by search jobs low high left s
per-job PerJob jobs low high left s = refl

pub returns : goal.returns
returns c =
    let a = c.args in
    let q = a.question.now in
    c.quanta_per_job.ensures ∙ per-job q.search (listed q) q.range.low q.range.high a.left a.set
