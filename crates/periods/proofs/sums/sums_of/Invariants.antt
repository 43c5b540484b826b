use Prim.Native.Nat.{◌^◌}
use mathlib.Core.Path.{◌≡◌}
use Rattle.periods.specs.ByPeriods.{period_at}
use Rattle.periods.specs.Sums.{SumsOf}
use Rattle.periods.proofs.sums.sums_of.Given as goal

abbrev pub invariant-loop-job : goal.invariant-loop-job
invariant-loop-job l = (l.half ≡ 2 ^ l.job-index) × SumsOf (period_at l.fn.jobs) l.job-index l.sums
