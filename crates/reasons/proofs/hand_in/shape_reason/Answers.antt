use mathlib.Core.Path.{◌∙◌}
use borrow.Author.Tests.{eq-eqb, ne_eqb, lt-ltb, le-ltb}
use Rattle.reasons.specs.Reasons.{shape_reason}
use Rattle.reasons.proofs.hand_in.shape_reason.Goals as goal

pub returns-then-setting-eq-NOT_PLACED : goal.returns-then-setting-eq-NOT_PLACED
unfolding shape_reason
returns-then-setting-eq-NOT_PLACED c = c.reason_of.ensures ∙ simp (eq-eqb _ _ c.if-setting-eq-NOT_PLACED.true)

pub returns-then-setting-gt-ROUND_ROBIN : goal.returns-then-setting-gt-ROUND_ROBIN
unfolding shape_reason
returns-then-setting-gt-ROUND_ROBIN c = c.reason_of-then-setting-gt-ROUND_ROBIN.ensures ∙ simp (ne_eqb _ _ c.if-setting-eq-NOT_PLACED.false, lt-ltb _ _ c.if-setting-gt-ROUND_ROBIN.true)

pub returns-then-level-eq0 : goal.returns-then-level-eq0
unfolding shape_reason
returns-then-level-eq0 c = c.reason_of-then-level-eq0.ensures ∙ simp (ne_eqb _ _ c.if-setting-eq-NOT_PLACED.false, le-ltb _ _ c.if-setting-gt-ROUND_ROBIN.false, eq-eqb _ _ c.if-level-eq0.true)

pub returns-then-n-level : goal.returns-then-n-level
unfolding shape_reason
returns-then-n-level c = c.reason_of-then-n-level.ensures ∙ simp (ne_eqb _ _ c.if-setting-eq-NOT_PLACED.false, le-ltb _ _ c.if-setting-gt-ROUND_ROBIN.false, ne_eqb _ _ c.if-level-eq0.false, lt-ltb _ _ c.if-n-level.true)

pub returns : goal.returns
unfolding shape_reason
returns c = c.quantum_reason.ensures ∙ simp (ne_eqb _ _ c.if-setting-eq-NOT_PLACED.false, le-ltb _ _ c.if-setting-gt-ROUND_ROBIN.false, ne_eqb _ _ c.if-level-eq0.false, le-ltb _ _ c.if-n-level.false)
