use mathlib.Core.Path.{◌∙◌}
use borrow.Author.Tests.{eq-eqb, ne_eqb}
use Rattle.reasons.specs.Reasons.{quantum_reason}
use Rattle.reasons.proofs.hand_in.quantum_reason.Goals as goal

pub returns-then-policy-eq-FIFO : goal.returns-then-policy-eq-FIFO
unfolding quantum_reason
returns-then-policy-eq-FIFO c = c.reason_of.ensures ∙ simp (eq-eqb _ _ c.if-policy-eq-FIFO.true)

pub returns : goal.returns
unfolding quantum_reason
returns c = c.reason_of-2.ensures ∙ simp (ne_eqb _ _ c.if-policy-eq-FIFO.false)
