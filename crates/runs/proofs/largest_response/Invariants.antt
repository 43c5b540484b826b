use Prim.Native.Nat.{ℕ, ◌+◌, ◌-◌, ◌*◌, ◌≤◌}
use mathlib.Core.Path.{◌≡◌}
use Rattle.sets.specs.Sets.{has}
use Rattle.response.specs.Demand.{most_instances}
use Rattle.runs.specs.Runs.{finish_by, run_by}
use Rattle.runs.proofs.largest_response.Given as goal

-- What is sought is what the run from this instance on finds; each instance so far has finished, its delay counted, after the release
-- of the next.
abbrev pub invariant-loop-instance : goal.invariant-loop-instance
invariant-loop-instance l =
    let finishes : ℕ → ℕ → ℕ = finish_by l.table (has l.above) l.left.spare l.left.carry l.quantum l.others l.cost l.period l.deadline l.delay in
    (l.largest ≤ l.deadline) × (l.instance * l.period ≤ l.before + l.delay)
    × (run_by finishes l.delay l.period l.sought most_instances 0 0 0
    ≡ run_by finishes l.delay l.period l.sought (most_instances - l.instance) l.instance l.before l.largest)
