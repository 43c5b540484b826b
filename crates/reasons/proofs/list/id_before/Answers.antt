use Prim.Native.Nat.{suc, ◌-◌}
use mathlib.Core.Path.{◌≡◌, ap}
use native.Mathlib.Omega.{arith}
use Rattle.records.specs.Jobs.{id_before}
use Rattle.reasons.proofs.list.id_before.Goals as goal

pub returns : goal.returns
returns c =
    let a = c.args in
    let e : suc (a.at - 1) ≡ a.at = omega (arith, c.if-at-eq0.false) in
    ap (id_before a.jobs) e
