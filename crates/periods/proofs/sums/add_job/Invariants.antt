use Rattle.periods.proofs.Summing.{Doubling}
use Rattle.periods.proofs.sums.add_job.Given as goal

abbrev pub invariant-loop-set : goal.invariant-loop-set
invariant-loop-set l = Doubling l.half l.period l.initial.sums l.sums l.set
