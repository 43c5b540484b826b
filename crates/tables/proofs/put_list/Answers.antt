use mathlib.Core.Path.{ap}
use Rattle.records.specs.Limits.{most_jobs}
use Rattle.records.specs.Records.{flat}
use Rattle.records.proofs.FixedWidth.{cut-take}
use Rattle.lists.specs.Lists.{job_text, list_text}
use Rattle.writing.proofs.Writing.{retold, whole}
use borrow.Author.Rules.{rules}
use Rattle.tables.proofs.put_list.Goals as goal

pub returns : goal.returns
unfolding list_text
returns c =
    let a = c.args in
    whole (retold c.put_lines.ensures (ap (flat job_text) (cut-take a.jobs most_jobs a.n c.at_most.result (search rules) c.at_most.ensures))) (search rules)
