use Prim.Native.Nat.{ℕ, ◌*◌, ◌≤◌}
use mathlib.Core.Path.{refl, sym, ap, ◌∙◌}
use native.Mathlib.Nat.{mul-le-mul, zero-mul}
use native.Mathlib.Omega.{arith}
use mir.Val.{Fits}
use mir.Syntax.{w16, w32}
use Rattle.response.specs.Demand.{ceil_div}
use Rattle.response.proofs.Division.{ceil-zero, ceil-le}
use borrow.Author.Rules.{rules}
use Rattle.parts.proofs.layer_share.Goals as goal
use Rattle.parts.proofs.layer_share.Goals.{Start}

pub returns-then-quantum-eq0 : goal.returns-then-quantum-eq0
returns-then-quantum-eq0 c = let a = c.args in (sym (ap (λ (x : ℕ). x * a.others) (ceil-zero a.work a.quantum c.if-quantum-eq0.true) ∙ zero-mul a.others), omega arith)

small : (s : Start) → ceil_div s.args.work s.args.quantum * s.args.others ≤ 4294967295 * 65535
small s =
    let a = s.args in
    let w : Fits w32 a.work = search rules in
    let o : Fits w16 a.others = search rules in
    mul-le-mul {n₂ = 4294967295} {m₂ = 65535} (omega (arith, ceil-le a.work a.quantum)) (omega arith)

pub returns : goal.returns
unfolding ceil_div
returns c = (refl, omega (arith, small (goal.at.returns c).Start))
