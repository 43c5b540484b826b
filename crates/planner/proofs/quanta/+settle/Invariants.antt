use Prim.Native.Nat.{ℕ, ◌-◌}
use mathlib.Core.Path.{◌≡◌}
use mathlib.Core.Bool.{false}
use lib.ListN.{get_or}
use Rattle.sets.specs.Sets.{has, size}
use Rattle.assignment.specs.Layers.{Standing}
use Rattle.planner.specs.Questions.{listed}
use Rattle.planner.proofs.quanta.+settle.Given as goal

-- The jobs that are pending, by their number.
abbrev pub decreases-settle : goal.decreases-settle
decreases-settle l = size l.pending

abbrev pub invariant-loop-stood : goal.invariant-loop-stood
invariant-loop-stood l =
    Standing (listed l.question) l.question.range.low l.question.range.high (has l.layer) (has l.above) l.now
    × ((i : ℕ) → has l.pending i ≡ false → get_or l.now i 0 ≡ get_or l.initial.now i 0)

abbrev pub decreases-loop-stood : goal.decreases-loop-stood
decreases-loop-stood l = l.question.range.high - get_or l.now l.job 0
