use Prim.Native.Nat.{◌*◌, ◌^◌, ◌≤◌}
use mathlib.Core.Path.{◌≡◌}
use lib.ListN.{get_or}
use Rattle.sets.specs.Places.{sum_over}
use Rattle.sets.specs.Sets.{has}
use Rattle.records.specs.Jobs.{job_at}
use Rattle.finishes.proofs.capacity.Table.capacity_of.Given as goal

abbrev pub invariant-loop-i : goal.invariant-loop-i
invariant-loop-i l = (l.taken ≡ sum_over l.i (has l.set) (λ k. get_or l.fn.self.utilisations k 0))
    × (l.carry ≡ sum_over l.i (has l.set) (λ k. (job_at l.fn.self.jobs k).delay * get_or l.fn.self.utilisations k 0))
    × (l.taken ≤ l.i * 2 ^ 32)
    × (l.carry ≤ l.i * 2 ^ 40)
