use Prim.Native.Nat.{ℕ}
use mathlib.Core.Path.{ap, ◌∙◌}
use borrow.Author.Tests.{eq-eqb, ne_eqb}
use Rattle.reasons.specs.Reasons.{past_reason, limits_reason}
use Rattle.reasons.proofs.limited.limits_reason.Goals as goal

pub returns-then-number-eq15 : goal.returns-then-number-eq15
unfolding limits_reason
returns-then-number-eq15 c =
    let a = c.args in
    c.past_reason.ensures ∙ ap (λ (k : ℕ). past_reason a.limits k a.high) c.at_most.ensures ∙ simp (eq-eqb _ _ c.if-number-eq15.true)

pub returns : goal.returns
unfolding limits_reason
returns c = c.unknown.ensures ∙ simp (ne_eqb _ _ c.if-number-eq15.false)
