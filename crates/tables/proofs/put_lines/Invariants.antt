use Prim.Native.Nat.{◌*◌}
use lib.ListN.{take}
use Rattle.records.specs.Records.{flat}
use Rattle.writing.specs.Templates.{Wrote}
use Rattle.tables.proofs.put_lines.Given as goal

abbrev pub invariant-loop-record : goal.invariant-loop-record
invariant-loop-record g l = Wrote (g.L.Line.room * l.record-index) l.initial.output l.output 0 l.at (flat g.L.Line.text (take l.record-index l.records))
