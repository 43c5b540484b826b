use mathlib.Core.Path.{ap}
use Rattle.kernel.specs.declared.priority.Level.{Level}
use Rattle.kernel.proofs.convert.to_setting.Goals as goal

pub returns : goal.returns
returns c =
    let k = c.args.kernel in
    ap (λ (x : Level). record { id = k.id; level = x.0; policy = k.policy; quantum = k.quantum }) c.level_of-level.ensures
