use Prim.Native.Nat.{◌-◌}
use mathlib.Core.Path.{◌≡◌}
use Rattle.search.specs.Search.{drops, drop_again, rounds, unassignable_of}
use Rattle.search.proofs.unassignable.unassignable_jobs.Given as goal

abbrev pub invariant-loop : goal.invariant-loop
invariant-loop l = unassignable_of l.workload ≡ drop_again (drops l.workload) (rounds - l.counter) l.set
