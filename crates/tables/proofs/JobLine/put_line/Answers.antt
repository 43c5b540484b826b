use mathlib.Core.List.{[]}
use Rattle.writing.proofs.Writing.{then, retold}
use Rattle.tables.proofs.Tabling.{job-line}
use borrow.Author.Rules.{rules}
use Rattle.tables.proofs.JobLine.put_line.Goals as goal

pub returns : goal.returns
returns c =
    let a = c.args in
    retold (then (c.put_template-after_deadline.ensures.wrote (search rules)) c.put_delay.ensures) (job-line a.self [])
