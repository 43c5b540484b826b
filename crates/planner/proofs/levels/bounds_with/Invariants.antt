use Prim.Native.Nat.{ℕ}
use mathlib.Core.Path.{◌≡◌}
use mathlib.Core.Bool.{cond}
use mathlib.Core.List.{List}
use lib.ListN.{get_or}
use Rattle.sets.specs.Places.{list_of}
use Rattle.sets.specs.Sets.{has}
use Rattle.records.specs.Limits.{most_jobs}
use Rattle.records.specs.Records.{table}
use Rattle.response.specs.Demand.{bound}
use Rattle.planner.specs.declared.question.Question.{Question}
use Rattle.planner.specs.Questions.{listed}
use Rattle.planner.proofs.levels.bounds_with.Given as goal

-- The bound of the job at place k.
abbrev pub next-at : Question → List ℕ → ℕ → ℕ → List ℕ → ℕ → ℕ
next-at question bounds set above quanta k = cond (has set k) (bound (listed question) quanta (has set) (has above) k) (get_or bounds k 0)

abbrev pub invariant-loop-k : goal.invariant-loop-k
invariant-loop-k l = l.next ≡ table most_jobs 0 (list_of (next-at l.fn.question l.bounds l.set l.above l.quanta) l.k)
