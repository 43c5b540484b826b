use mathlib.Core.Path.{◌∙◌}
use borrow.Author.Tests.{eq-eqb, ne_eqb}
use Rattle.reasons.specs.Reasons.{sharing_reason}
use Rattle.reasons.proofs.hand_in.sharing_reason.Goals as goal

pub returns-then-setting-eq-FIFO : goal.returns-then-setting-eq-FIFO
unfolding sharing_reason
returns-then-setting-eq-FIFO c = c.reason_of.ensures ∙ simp (eq-eqb _ _ c.if-setting-eq-FIFO.true)

pub returns : goal.returns
unfolding sharing_reason
returns c = c.reason_of-2.ensures ∙ simp (ne_eqb _ _ c.if-setting-eq-FIFO.false)
