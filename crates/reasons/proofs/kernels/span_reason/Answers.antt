use mathlib.Core.Path.{◌∙◌}
use borrow.Author.Tests.{lt-ltb, le-ltb}
use Rattle.reasons.specs.Reasons.{span_reason}
use Rattle.reasons.proofs.kernels.span_reason.Goals as goal

pub returns-then-high-low : goal.returns-then-high-low
unfolding span_reason
returns-then-high-low c = c.on_whole.ensures ∙ simp (lt-ltb _ _ c.if-high-low.true)

pub returns : goal.returns
unfolding span_reason
returns c = c.reason_of.ensures ∙ simp (le-ltb _ _ c.if-high-low.false)
