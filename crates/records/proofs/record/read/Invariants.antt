use mathlib.Core.Path.{◌≡◌}
use mathlib.Core.List.{map}
use lib.ListN.{take}
use Rattle.records.specs.Limits.{most_jobs}
use Rattle.records.specs.Records.{table}
use Rattle.records.proofs.record.read.Given as goal

abbrev pub invariant-loop-i : goal.invariant-loop-i
invariant-loop-i g l = l.table ≡ table most_jobs g.R.FromRecord.blank (map g.R.FromRecord.read (take l.i l.parts))
