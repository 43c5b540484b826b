use mathlib.Core.Path.{sym, ◌∙◌, ap, ap₂}
use mathlib.Core.Bool.{true, false}
use borrow.Author.Tests.{not-true, not-false}
use Rattle.sets.specs.Sets.{join, within}
use Rattle.search.proofs.Deciding.{decides-alone, decides-by, cover-within}
use borrow.Author.Rules.{rules}
use Rattle.search.proofs.workload.first_decides.Goals as goal

pub returns-then-neighbours-eq0 : goal.returns-then-neighbours-eq0
returns-then-neighbours-eq0 c =
    let a = c.args in
    sym (decides-alone a.layer a.above a.job c.requires a.unassignable (sym c.remove-neighbours.ensures ∙ c.if-neighbours-eq0.true))

pub returns-then-not-contains : goal.returns-then-not-contains
returns-then-not-contains c =
    let a = c.args in
    sym (decides-by a.layer a.above a.job c.requires a.unassignable (search rules)
    (λ e. c.if-neighbours-eq0.false (c.remove-neighbours.ensures ∙ e)) false (sym (not-true c.contains.result c.if-not-contains.true-raw) ∙ c.contains.ensures))

pub returns : goal.returns
returns c =
    let a = c.args in
    c.is_within.ensures
    ∙ ap₂ within c.remove.ensures (c.join.ensures ∙ ap (join a.above) c.remove-neighbours.ensures)
    ∙ cover-within a.layer a.above a.job c.requires a.unassignable (search rules)
    ∙ sym (decides-by a.layer a.above a.job c.requires a.unassignable (search rules)
    (λ e. c.if-neighbours-eq0.false (c.remove-neighbours.ensures ∙ e)) true (sym (not-false c.contains.result c.if-not-contains.false-raw) ∙ c.contains.ensures))
