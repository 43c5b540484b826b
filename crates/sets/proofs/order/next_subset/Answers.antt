use mathlib.Core.Path.{refl, sym, ◌∙◌}
use Rattle.sets.proofs.Walk.{next-found, next-skipped, next-end}
use Rattle.sets.proofs.order.next_subset.Goals as goal

pub loop-p-init : goal.loop-p-init
loop-p-init c = refl

pub returns-then-is_within : goal.returns-then-is_within
returns-then-is_within c =
    sym (c.loop-p.invariant ∙ next-found _ _ _ c.loop-p-test.true c.is_within.ensures c.if-is_within.true)

pub loop-p-preserved : goal.loop-p-preserved
loop-p-preserved c =
    c.loop-p.invariant ∙ next-skipped _ _ _ c.loop-p-test.true c.is_within.ensures c.if-is_within.false

pub returns : goal.returns
returns c = sym (c.loop-p.invariant ∙ next-end _ _ _ c.loop-p-test.false)
