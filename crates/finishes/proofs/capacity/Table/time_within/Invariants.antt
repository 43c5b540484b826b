use Prim.Native.Nat.{◌+◌, ◌-◌, ◌≤◌}
use mathlib.Core.Path.{◌≡◌}
use Rattle.sets.specs.Sets.{has}
use Rattle.response.specs.Demand.{interference}
use Rattle.finishes.specs.Finishes.{steps, plain_steps, far_time, time_for}
use Rattle.finishes.proofs.capacity.Table.time_within.Given as goal

-- What is sought is what is found from t on after the plain steps that are left, and t is not before `before`.
abbrev pub invariant-loop : goal.invariant-loop
invariant-loop l = (time_for l.self (has l.above) l.fn.left.spare l.fn.left.carry l.own l.limit l.before
    ≡ far_time l.self (has l.above) l.own l.limit (steps (λ x. l.own + interference l.self.jobs (has l.above) x) l.limit (plain_steps - l.counter) l.t))
    × (l.before ≤ l.t)
