use Prim.Native.Nat.{ℕ, ◌-◌, ◌≤◌}
use mathlib.Core.Bool.{Bool}
use lib.ListN.{length, drop}
use Rattle.sets.specs.Order.{subsets}
use Rattle.sets.proofs.Searching.{Reached}
use Rattle.assignment.specs.Plan.{is_found}
use Rattle.planner.specs.declared.question.Question.{Question}
use Rattle.planner.specs.Questions.{finds}
use Rattle.planner.proofs.choice.first_of.Given as goal

-- The test of the sets.
abbrev pub takeable : Question → ℕ → ℕ → Bool
takeable question left s = is_found (finds question left s)

abbrev pub invariant-loop-at : goal.invariant-loop-at
invariant-loop-at l = Reached (takeable l.question l.left) (subsets l.left l.sequence) (subsets l.left (drop l.place l.sequence)) l.missed × (l.missed ≤ l.place) × (l.place ≤ length l.sequence)

abbrev pub decreases-loop-at : goal.decreases-loop-at
decreases-loop-at l = length l.sequence - l.place
