use Prim.Native.Nat.{ℕ, ◌+◌}
use mathlib.Core.Path.{◌≡◌, refl, sym, ◌∙◌, ap}
use native.Mathlib.Omega.{arith}
use borrow.Author.Tests.{eq-eqb, ne_eqb}
use Rattle.sets.proofs.Places.{count_none, count-in, count-out}
use Rattle.kernel.specs.KernelConfiguration.{on_priority, sharing_priority}
use borrow.Author.Rules.{rules}
use Rattle.kernel.proofs.judge.on_priority.Goals as goal
use Rattle.kernel.proofs.judge.on_priority.Goals.{then-own-priority, else-own-priority}

pub loop-i-init : goal.loop-i-init
loop-i-init c = (search rules, sym (count_none _))

pub loop-i-preserved : goal.loop-i-preserved
loop-i-preserved c =
    let l = c.loop-i in
    let a = c.args in
    let p = on_priority a.kernels a.priority.0 in
    elim c.if-own-priority.branch [
      | then-own-priority w ↦ (omega arith, w.jobs-is ∙ ap (λ (m : ℕ). m + 1) l.invariant.1 ∙ sym (count-in l.i p refl (eq-eqb _ _ w.if-own-priority.true)))
      | else-own-priority w ↦ (omega arith, w.jobs-is ∙ l.invariant.1 ∙ sym (count-out l.i p refl (ne_eqb _ _ w.if-own-priority.false)))
    ]

pub returns : goal.returns
returns c =
    let l = c.loop-i in
    let a = c.args in
    let e : l.i ≡ a.n = omega arith in
    l.invariant.1 ∙ ap (λ (k : ℕ). sharing_priority k a.kernels a.priority.0) e
