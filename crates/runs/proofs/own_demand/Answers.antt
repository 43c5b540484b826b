use Prim.Native.Nat.{ℕ, ◌+◌, ◌*◌}
use mathlib.Core.Path.{ap}
use Rattle.runs.specs.Runs.{own_demand}
use Rattle.runs.proofs.own_demand.Goals as goal

pub returns : goal.returns
unfolding own_demand
returns c = ap (λ (x : ℕ). c.args.count * c.args.cost + x * c.args.others) c.cycles_of-cycles.ensures.0
