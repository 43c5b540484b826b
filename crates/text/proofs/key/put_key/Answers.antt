use native.Mathlib.Omega.{arith}
use Rattle.writing.specs.Templates.{filled}
use Rattle.writing.proofs.Writing.{then}
use Rattle.text.specs.Keys.{table_text}
use Rattle.text.proofs.key.put_key.Goals as goal

pub returns : goal.returns
unfolding table_text filled
returns c =
    let rows = c.put_jobs-at.ensures in
    then rows (c.put_template.ensures.wrote (omega (arith, rows.next, rows.short)))
