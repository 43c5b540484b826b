use Prim.Native.Nat.{ℕ}
use mathlib.Core.Path.{◌≡◌, sym, ◌∙◌, ap}
use native.Mathlib.Omega.{arith}
use lib.ListN.{get_or}
use mir.Val.{Fits}
use mir.Syntax.{w8}
use Rattle.sets.specs.Places.{sum_over}
use Rattle.sets.specs.Sets.{has}
use Rattle.sets.proofs.Places.{over_none, over-in, over-out}
use Rattle.records.specs.Limits.{most_jobs}
use Rattle.search.proofs.OtherQuanta.{others-removed}
use borrow.Author.Rules.{rules}
use Rattle.search.proofs.quanta.other_quanta.Goals as goal
use Rattle.search.proofs.quanta.other_quanta.Goals.{then-contains, else-contains}

pub loop-i-init : goal.loop-i-init
loop-i-init c = (sym (over_none _ _), omega arith)

pub loop-i-preserved : goal.loop-i-preserved
loop-i-preserved c =
    let a = c.args in
    let l = c.loop-i in
    let f : ℕ → ℕ = λ k. get_or a.quanta k 0 in
    let h : Fits w8 (get_or a.quanta l.i 0) = search rules in
    elim c.if-contains.branch [ then-contains w ↦ (w.sum-is ∙ omega (arith, over-in l.i (has c.remove-others.result) f c.contains.ensures w.if-contains.true, l.invariant.0), omega arith) | else-contains w ↦ (w.sum-is ∙ omega (arith, over-out l.i (has c.remove-others.result) f c.contains.ensures w.if-contains.false, l.invariant.0), omega arith) ]

pub returns : goal.returns
returns c =
    let a = c.args in
    let l = c.loop-i in
    let e : l.i ≡ most_jobs = omega arith in
    l.invariant.0 ∙ ap (λ (n : ℕ). sum_over n (has c.remove-others.result) (λ k. get_or a.quanta k 0)) e ∙ others-removed a.job a.layer c.remove-others.result a.quanta c.remove-others.ensures
