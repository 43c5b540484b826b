use mathlib.Core.Path.{◌∙◌}
use borrow.Author.Tests.{eq-eqb, ne_eqb, lt-ltb, le-ltb}
use Rattle.reasons.specs.Reasons.{kernel_shape_reason}
use Rattle.reasons.proofs.kernels.kernel_shape_reason.Goals as goal

pub returns-then-policy-eq-NOT_PLACED : goal.returns-then-policy-eq-NOT_PLACED
unfolding kernel_shape_reason
returns-then-policy-eq-NOT_PLACED c = c.reason_of.ensures ∙ simp (eq-eqb _ _ c.if-policy-eq-NOT_PLACED.true)

pub returns-then-policy-gt-ROUND_ROBIN : goal.returns-then-policy-gt-ROUND_ROBIN
unfolding kernel_shape_reason
returns-then-policy-gt-ROUND_ROBIN c = c.reason_of-then-policy-gt-ROUND_ROBIN.ensures ∙ simp (ne_eqb _ _ c.if-policy-eq-NOT_PLACED.false, lt-ltb _ _ c.if-policy-gt-ROUND_ROBIN.true)

pub returns : goal.returns
unfolding kernel_shape_reason
returns c = c.quantum_reason.ensures ∙ simp (ne_eqb _ _ c.if-policy-eq-NOT_PLACED.false, le-ltb _ _ c.if-policy-gt-ROUND_ROBIN.false)
