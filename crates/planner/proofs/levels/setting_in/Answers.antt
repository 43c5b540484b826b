use borrow.Author.Tests.{eq-eqb, ne_eqb}
use Rattle.assignment.specs.Plan.{setting_in}
use Rattle.planner.proofs.levels.setting_in.Goals as goal

pub returns-then-size-eq1 : goal.returns-then-size-eq1
unfolding setting_in
returns-then-size-eq1 c = simp (eq-eqb _ _ c.if-size-eq1.true)

pub returns-else-size-eq1 : goal.returns-else-size-eq1
unfolding setting_in
returns-else-size-eq1 c = simp (ne_eqb _ _ c.if-size-eq1.false)
