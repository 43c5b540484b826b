use Rattle.periods.specs.ByPeriods.{by_periods}
use Rattle.planner.specs.Questions.{listed}
use Rattle.planner.proofs.LevelByLevel.{Reaches}
use Rattle.planner.proofs.levels.plan_levels.Given as goal

abbrev pub invariant-loop-level : goal.invariant-loop-level
invariant-loop-level l = Reaches l.question (by_periods (listed l.question)) l.level l.progress
