use mathlib.Core.Path.{◌∙◌}
use borrow.Author.Tests.{eq-eqb, ne_eqb}
use Rattle.reasons.specs.Reasons.{kernel_sharing_reason}
use Rattle.reasons.proofs.kernels.kernel_sharing_reason.Goals as goal

pub returns-then-kernel-eq-FIFO : goal.returns-then-kernel-eq-FIFO
unfolding kernel_sharing_reason
returns-then-kernel-eq-FIFO c = c.reason_of.ensures ∙ simp (eq-eqb _ _ c.if-kernel-eq-FIFO.true)

pub returns : goal.returns
unfolding kernel_sharing_reason
returns c = c.reason_of-2.ensures ∙ simp (ne_eqb _ _ c.if-kernel-eq-FIFO.false)
