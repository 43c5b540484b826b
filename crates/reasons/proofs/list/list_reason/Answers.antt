use mathlib.Core.Path.{◌∙◌}
use borrow.Author.Tests.{eq-eqb, ne_eqb}
use Rattle.reasons.specs.Reasons.{list_reason}
use Rattle.reasons.proofs.list.list_reason.Goals as goal

pub returns-then-number-eq1 : goal.returns-then-number-eq1
unfolding list_reason
returns-then-number-eq1 c = c.size_reason.ensures ∙ simp (eq-eqb _ _ c.if-number-eq1.true)

pub returns-then-number-eq2 : goal.returns-then-number-eq2
unfolding list_reason
returns-then-number-eq2 c = c.job_reason.ensures ∙ simp (ne_eqb _ _ c.if-number-eq1.false, eq-eqb _ _ c.if-number-eq2.true)

pub returns-then-number-eq3 : goal.returns-then-number-eq3
unfolding list_reason
returns-then-number-eq3 c = c.job_reason-then-number-eq3.ensures ∙ simp (ne_eqb _ _ c.if-number-eq1.false, ne_eqb _ _ c.if-number-eq2.false, eq-eqb _ _ c.if-number-eq3.true)

pub returns-then-number-eq5 : goal.returns-then-number-eq5
unfolding list_reason
returns-then-number-eq5 c = c.job_reason-then-number-eq5.ensures ∙ simp (ne_eqb _ _ c.if-number-eq1.false, ne_eqb _ _ c.if-number-eq2.false, ne_eqb _ _ c.if-number-eq3.false, eq-eqb _ _ c.if-number-eq5.true)

pub returns-then-number-eq6 : goal.returns-then-number-eq6
unfolding list_reason
returns-then-number-eq6 c = c.range_reason.ensures ∙ simp (ne_eqb _ _ c.if-number-eq1.false, ne_eqb _ _ c.if-number-eq2.false, ne_eqb _ _ c.if-number-eq3.false, ne_eqb _ _ c.if-number-eq5.false, eq-eqb _ _ c.if-number-eq6.true)

pub returns : goal.returns
unfolding list_reason
returns c = c.unknown.ensures ∙ simp (ne_eqb _ _ c.if-number-eq1.false, ne_eqb _ _ c.if-number-eq2.false, ne_eqb _ _ c.if-number-eq3.false, ne_eqb _ _ c.if-number-eq5.false, ne_eqb _ _ c.if-number-eq6.false)
