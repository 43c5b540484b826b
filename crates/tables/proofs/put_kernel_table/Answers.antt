use mathlib.Core.Path.{ap}
use Rattle.records.specs.Limits.{most_jobs}
use Rattle.records.specs.Records.{flat}
use Rattle.records.proofs.FixedWidth.{cut-take}
use Rattle.lists.specs.Lists.{kernel_text, kernels_text}
use Rattle.writing.proofs.Writing.{retold, whole}
use borrow.Author.Rules.{rules}
use Rattle.tables.proofs.put_kernel_table.Goals as goal

pub returns : goal.returns
unfolding kernels_text
returns c =
    let a = c.args in
    whole (retold c.put_lines.ensures (ap (flat kernel_text) (cut-take a.kernels most_jobs a.n c.at_most.result (search rules) c.at_most.ensures))) (search rules)
