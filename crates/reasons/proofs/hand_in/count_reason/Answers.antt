use mathlib.Core.Path.{◌∙◌}
use borrow.Author.Tests.{eq-eqb, ne_eqb}
use Rattle.reasons.specs.Reasons.{count_reason}
use Rattle.reasons.proofs.hand_in.count_reason.Goals as goal

pub returns-then-size-eq0 : goal.returns-then-size-eq0
unfolding count_reason
returns-then-size-eq0 c = c.on_whole.ensures ∙ simp (eq-eqb _ _ c.if-size-eq0.true)

pub returns : goal.returns
unfolding count_reason
returns c = c.on_whole-2.ensures ∙ simp (ne_eqb _ _ c.if-size-eq0.false)
