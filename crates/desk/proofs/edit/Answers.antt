use mathlib.Core.Path.{sym, ap, ◌∙◌}
use Rattle.std.proofs.lemmas.Result.{err_from_is_err_and}
use Rattle.records.specs.Refusals.{verdict}
use Rattle.desk.proofs.Editing.{edit-done, edit-refused}
use Rattle.desk.proofs.edit.Goals as goal

pub returns-in_err-judge : goal.returns-in_err-judge
returns-in_err-judge c =
    let a = c.args in
    let p = err_from_is_err_and c.from_residual.result c.from_residual.ensures.1 in
    rw (p.1, p.2) (sym (edit-refused a.jobs.now a.place a.cost a.period a.deadline _ (sym c.judge.ensures ∙ ap verdict c.in_err-judge.was)))

pub returns : goal.returns
returns c =
    let a = c.args in
    sym (edit-done a.jobs.now a.place a.cost a.period a.deadline (sym c.judge.ensures ∙ ap verdict c.in_ok-judge.was))
