use Prim.Native.Nat.{ℕ, suc, ◌+◌, ◌-◌, ◌*◌, ◌/◌, ◌≤◌}
use mathlib.Core.Path.{◌≡◌}
use mathlib.Core.List.{List}
use Rattle.sets.specs.Sets.{has}
use Rattle.records.specs.declared.job.Job.{Job}
use Rattle.response.specs.Demand.{interference}
use Rattle.finishes.specs.Finishes.{whole, climb}
use Rattle.finishes.proofs.finish.climb.Given as goal

-- The demand with the jobs above in two sets, and the estimate.
abbrev pub demand : List Job → ℕ → ℕ → ℕ → ℕ → ℕ
demand jobs long short own t = own + interference jobs (has long) t + interference jobs (has short) t

abbrev pub estimate : List Job → ℕ → ℕ → ℕ → ℕ → ℕ → ℕ
estimate jobs long spare carry own t = ((own + interference jobs (has long) t) * whole + carry) / spare

-- What is sought is what the iteration finds from t on, and t is not before the start.
abbrev pub invariant-loop-t : goal.invariant-loop-t
invariant-loop-t l = (climb (demand l.jobs l.long l.short l.own) (estimate l.jobs l.long l.spare l.carry l.own) l.limit (suc l.limit) l.start
    ≡ climb (demand l.jobs l.long l.short l.own) (estimate l.jobs l.long l.spare l.carry l.own) l.limit (suc l.limit) l.t)
    × (l.start ≤ l.t)

abbrev pub decreases-loop-t : goal.decreases-loop-t
decreases-loop-t l = l.limit + 1 - l.t
