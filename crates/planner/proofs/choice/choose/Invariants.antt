use Prim.Native.Nat.{◌-◌, ◌≤◌}
use Rattle.sets.specs.Sets.{places}
use Rattle.sets.specs.Order.{subsets}
use Rattle.periods.specs.ByPeriods.{total, period_at, by_periods}
use Rattle.periods.proofs.SizeBySize.{beyond}
use Rattle.sets.proofs.Searching.{Reached}
use Rattle.planner.specs.Questions.{listed}
use Rattle.planner.specs.Stages.{takeable}
use Rattle.planner.proofs.choice.choose.Given as goal

abbrev pub invariant-loop-size : goal.invariant-loop-size
invariant-loop-size l = (l.size - 1 ≤ places) × Reached (takeable l.question l.left) (subsets l.left (by_periods (listed l.question))) (beyond (total (period_at (listed l.question))) l.left (l.size - 1)) l.missed
