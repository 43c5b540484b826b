use mathlib.Core.List.{◌++◌}
use mathlib.Core.Path.{ap, ◌∙◌}
use lib.ListN.{take}
use Rattle.records.specs.Records.{flat}
use Rattle.writing.proofs.Writing.{retold, no-part, one-more, flat-next}
use Rattle.tables.proofs.put_lines.Goals as goal

pub loop-record-init : goal.loop-record-init
unfolding flat
loop-record-init g c = no-part g.L.Line.room _ _

pub loop-record-preserved : goal.loop-record-preserved
loop-record-preserved g c =
    let i = c.loop-record.record-index in
    let records = c.args.records.now in
    retold (one-more g.L.Line.room i c.loop-record.invariant c.put_line-at.ensures)
    (ap (λ (item : _). flat g.L.Line.text (take i records) ++ g.L.Line.text item) c.record-item.is ∙ flat-next g.L.Line.text records i c.record-item.result c.loop-record-test.true)
