use Prim.Native.Nat.{◌*◌, ◌^◌, ◌≤◌}
use mathlib.Core.Path.{◌≡◌}
use Rattle.sets.specs.Places.{sum_over}
use Rattle.sets.specs.Sets.{has}
use Rattle.records.specs.Jobs.{job_at}
use Rattle.response.specs.Demand.{work}
use Rattle.finishes.proofs.demand.works_of.Given as goal

abbrev pub invariant-loop-i : goal.invariant-loop-i
invariant-loop-i l = (l.of_long ≡ sum_over l.i (has l.long) (λ k. work (job_at l.fn.jobs k) l.t))
    × (l.of_short ≡ sum_over l.i (has l.short) (λ k. work (job_at l.fn.jobs k) l.t))
    × (l.of_long ≤ l.i * 2 ^ 39)
    × (l.of_short ≤ l.i * 2 ^ 39)
