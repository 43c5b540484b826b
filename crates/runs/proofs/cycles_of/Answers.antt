use mathlib.Core.Path.{refl, sym}
use native.Mathlib.Omega.{arith}
use Rattle.response.specs.Demand.{ceil_div}
use Rattle.response.proofs.Division.{ceil-zero, ceil-le}
use Rattle.runs.proofs.cycles_of.Goals as goal

pub returns-then-quantum-eq0 : goal.returns-then-quantum-eq0
returns-then-quantum-eq0 c = (sym (ceil-zero c.args.work c.args.quantum c.if-quantum-eq0.true), omega arith)

pub returns : goal.returns
unfolding ceil_div
returns c =
    let a = c.args in
    (refl, ceil-le a.work a.quantum)
