use Prim.Native.Nat.{◌-◌}
use lib.ListN.{get_or}
use Rattle.sets.specs.Sets.{has}
use Rattle.assignment.specs.Layers.{Raised}
use Rattle.planner.specs.Questions.{listed}
use Rattle.planner.proofs.quanta.raise.Given as goal

abbrev pub invariant-loop-workload : goal.invariant-loop-workload
invariant-loop-workload l = Raised (listed l.fn.question) l.fn.question.range.low l.fn.question.range.high (has l.layer) (has l.above) l.job l.initial.now l.now

abbrev pub decreases-loop-workload : goal.decreases-loop-workload
decreases-loop-workload l = l.fn.question.range.high - get_or l.now l.job 0
