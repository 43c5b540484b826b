use mathlib.Core.Path.{refl, sym}
use native.Mathlib.Omega.{arith}
use Rattle.response.specs.Demand.{ceil_div}
use Rattle.response.proofs.Division.{ceil-zero, ceil-le}
use Rattle.finishes.proofs.demand.ceil_div.Goals as goal

pub returns-then-b-eq0 : goal.returns-then-b-eq0
returns-then-b-eq0 c = (sym (ceil-zero c.args.a c.args.b c.if-b-eq0.true), omega arith)

pub returns : goal.returns
unfolding ceil_div
returns c =
    let a = c.args in
    (refl, ceil-le a.a a.b)
