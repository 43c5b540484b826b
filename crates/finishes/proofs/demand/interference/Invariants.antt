use Prim.Native.Nat.{◌*◌, ◌^◌, ◌≤◌}
use mathlib.Core.Path.{◌≡◌}
use Rattle.sets.specs.Places.{sum_over}
use Rattle.sets.specs.Sets.{has}
use Rattle.records.specs.Jobs.{job_at}
use Rattle.response.specs.Demand.{work}
use Rattle.finishes.proofs.demand.interference.Given as goal

abbrev pub invariant-loop-i : goal.invariant-loop-i
invariant-loop-i l = (l.sum ≡ sum_over l.i (has l.above) (λ k. work (job_at l.fn.jobs k) l.t)) × (l.sum ≤ l.i * 2 ^ 39)
