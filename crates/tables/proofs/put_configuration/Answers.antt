use mathlib.Core.Path.{ap}
use Rattle.records.specs.Limits.{most_jobs}
use Rattle.records.specs.Records.{flat}
use Rattle.records.proofs.FixedWidth.{cut-take}
use Rattle.lists.specs.Lists.{setting_text, configuration_text}
use Rattle.writing.proofs.Writing.{retold, whole}
use borrow.Author.Rules.{rules}
use Rattle.tables.proofs.put_configuration.Goals as goal

pub returns : goal.returns
unfolding configuration_text
returns c =
    let a = c.args in
    whole (retold c.put_lines.ensures (ap (flat setting_text) (cut-take a.settings most_jobs a.n c.at_most.result (search rules) c.at_most.ensures))) (search rules)
