use mathlib.Core.Path.{◌∙◌}
use borrow.Author.Tests.{eq-eqb, ne_eqb}
use Rattle.reasons.specs.Reasons.{size_reason}
use Rattle.reasons.proofs.list.size_reason.Goals as goal

pub returns-then-size-eq0 : goal.returns-then-size-eq0
unfolding size_reason
returns-then-size-eq0 c = c.on_whole.ensures ∙ simp (eq-eqb _ _ c.if-size-eq0.true)

pub returns-then-size-eq0-2 : goal.returns-then-size-eq0-2
unfolding size_reason
returns-then-size-eq0-2 c = c.on_whole-then-size-eq0-2.ensures ∙ simp (ne_eqb _ _ c.if-size-eq0.false, eq-eqb _ _ c.if-size-eq0-2.true)

pub returns : goal.returns
unfolding size_reason
returns c = c.on_whole-2.ensures ∙ simp (ne_eqb _ _ c.if-size-eq0.false, ne_eqb _ _ c.if-size-eq0-2.false)
