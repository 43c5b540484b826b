use mathlib.Core.Path.{sym, ap}
use mathlib.Core.Bool.{Bool, cond}
use mathlib.Core.List.{[], ◌∷◌}
use borrow.Author.Tests.{eq-eqb}
use Rattle.lists.specs.Decimals.{space, decimal}
use Rattle.writing.specs.Templates.{filled}
use Rattle.writing.proofs.Writing.{retold}
use borrow.Author.Rules.{rules}
use Rattle.marking.proofs.put_over.Goals as goal

pub returns : goal.returns
unfolding filled
returns c =
    let a = c.args in
    retold (c.put_template.ensures.wrote (search rules)) (sym (ap (λ (b : Bool). cond b (space ∷ decimal a.job.id) []) (eq-eqb a.bound 0 c.if-bound-ne0.false)))
