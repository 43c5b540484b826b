use mathlib.Core.Path.{◌∙◌}
use borrow.Author.Tests.{eq-eqb, ne_eqb, lt-ltb, le-ltb}
use Rattle.reasons.specs.Reasons.{times_reason}
use Rattle.reasons.proofs.list.times_reason.Goals as goal

pub returns-then-cost-eq0 : goal.returns-then-cost-eq0
unfolding times_reason
returns-then-cost-eq0 c = c.reason_of.ensures ∙ simp (eq-eqb _ _ c.if-cost-eq0.true)

pub returns-then-deadline-cost : goal.returns-then-deadline-cost
unfolding times_reason
returns-then-deadline-cost c = c.reason_of-then-deadline-cost.ensures ∙ simp (ne_eqb _ _ c.if-cost-eq0.false, lt-ltb _ _ c.if-deadline-cost.true)

pub returns-then-period-cost : goal.returns-then-period-cost
unfolding times_reason
returns-then-period-cost c = c.reason_of-then-period-cost.ensures ∙ simp (ne_eqb _ _ c.if-cost-eq0.false, le-ltb _ _ c.if-deadline-cost.false, lt-ltb _ _ c.if-period-cost.true)

pub returns-then-period-gt60000 : goal.returns-then-period-gt60000
unfolding times_reason
returns-then-period-gt60000 c = c.reason_of-then-period-gt60000.ensures ∙ simp (ne_eqb _ _ c.if-cost-eq0.false, le-ltb _ _ c.if-deadline-cost.false, le-ltb _ _ c.if-period-cost.false, lt-ltb _ _ c.if-period-gt60000.true)

pub returns : goal.returns
unfolding times_reason
returns c = c.reason_of-2.ensures ∙ simp (ne_eqb _ _ c.if-cost-eq0.false, le-ltb _ _ c.if-deadline-cost.false, le-ltb _ _ c.if-period-cost.false, le-ltb _ _ c.if-period-gt60000.false)
