use Prim.Native.Nat.{◌*◌}
use mathlib.Core.Path.{◌≡◌}
use mathlib.Core.List.{◌++◌}
use lib.ListN.{drop, take}
use Rattle.records.specs.Records.{flat}
use Rattle.records.proofs.record.write.Given as goal

abbrev pub invariant-loop-i : goal.invariant-loop-i
invariant-loop-i g l = l.output ≡ flat g.R.ToRecord.bytes (take l.i l.records) ++ drop (g.row.SIZE * l.i) l.initial.output
