use mathlib.Core.Path.{◌∙◌}
use borrow.Author.Tests.{eq-eqb, ne_eqb, lt-ltb, le-ltb}
use Rattle.reasons.specs.Reasons.{range_reason}
use Rattle.reasons.proofs.list.range_reason.Goals as goal

pub returns-then-low-eq0 : goal.returns-then-low-eq0
unfolding range_reason
returns-then-low-eq0 c = c.on_whole.ensures ∙ simp (eq-eqb _ _ c.if-low-eq0.true)

pub returns-then-high-low : goal.returns-then-high-low
unfolding range_reason
returns-then-high-low c = c.on_whole-then-high-low.ensures ∙ simp (ne_eqb _ _ c.if-low-eq0.false, lt-ltb _ _ c.if-high-low.true)

pub returns : goal.returns
unfolding range_reason
returns c = c.on_whole-2.ensures ∙ simp (ne_eqb _ _ c.if-low-eq0.false, le-ltb _ _ c.if-high-low.false)
