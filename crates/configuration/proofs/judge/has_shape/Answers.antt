use mathlib.Core.Path.{sym, ◌∙◌}
use borrow.Author.Tests.{eq-eqb, ne_eqb, not-true, not-false}
use Rattle.configuration.proofs.Policies.{shaped-unplaced, shaped-off, shaped_on}
use Rattle.configuration.proofs.judge.has_shape.Goals as goal

pub returns-then-setting-ne0 : goal.returns-then-setting-ne0
returns-then-setting-ne0 c = sym (shaped-unplaced _ _ _ _ c.if-setting-eq-NOT_PLACED.true ∙ simp (ne_eqb _ _ c.if-setting-ne0.true))

pub returns-then-setting-eq-NOT_PLACED : goal.returns-then-setting-eq-NOT_PLACED
returns-then-setting-eq-NOT_PLACED c = sym (shaped-unplaced _ _ _ _ c.if-setting-eq-NOT_PLACED.true ∙ simp (eq-eqb _ _ c.if-setting-ne0.false))

pub returns-then-not-is_level : goal.returns-then-not-is_level
returns-then-not-is_level c = sym (shaped-off _ _ _ _ c.if-setting-eq-NOT_PLACED.false (sym c.is_level.ensures ∙ not-true _ c.if-not-is_level.true-raw))

pub returns : goal.returns
returns c =
    c.is_scheduled.ensures ∙ sym (shaped_on _ _ _ _ c.if-setting-eq-NOT_PLACED.false (sym c.is_level.ensures ∙ not-false _ c.if-not-is_level.false-raw))
