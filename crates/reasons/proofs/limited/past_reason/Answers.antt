use mathlib.Core.Path.{◌∙◌}
use borrow.Author.Tests.{lt-ltb, le-ltb}
use Rattle.reasons.specs.Reasons.{past_reason}
use Rattle.reasons.proofs.limited.past_reason.Goals as goal

pub returns-then-limits-n : goal.returns-then-limits-n
unfolding past_reason
returns-then-limits-n c = c.on_whole.ensures ∙ simp (lt-ltb _ _ c.if-limits-n.true)

pub returns : goal.returns
unfolding past_reason
returns c = c.on_whole-2.ensures ∙ simp (le-ltb _ _ c.if-limits-n.false)
