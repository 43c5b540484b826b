use Prim.Native.Nat.{ℕ}
use mathlib.Core.Path.{ap, ◌∙◌}
use borrow.Author.Tests.{eq-eqb, ne_eqb}
use Rattle.reasons.specs.Reasons.{span_reason, priorities_reason}
use Rattle.reasons.proofs.kernels.priorities_reason.Goals as goal

pub returns-then-number-eq13 : goal.returns-then-number-eq13
unfolding priorities_reason
returns-then-number-eq13 c =
    let a = c.args in
    c.span_reason.ensures ∙ ap (λ (k : ℕ). span_reason k a.lowest a.highest) c.at_most.ensures ∙ simp (eq-eqb _ _ c.if-number-eq13.true)

pub returns : goal.returns
unfolding priorities_reason
returns c = c.unknown.ensures ∙ simp (ne_eqb _ _ c.if-number-eq13.false)
