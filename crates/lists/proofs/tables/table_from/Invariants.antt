use mathlib.Core.Path.{◌≡◌}
use mathlib.Core.List.{map}
use lib.ListN.{take}
use Rattle.records.specs.Limits.{most_jobs}
use Rattle.records.specs.Records.{table}
use Rattle.lists.proofs.tables.table_from.Given as goal

abbrev pub invariant-loop-i : goal.invariant-loop-i
invariant-loop-i g l = l.table ≡ table most_jobs g.R.FromRow.BLANK (map g.R.FromRow.from (take l.i l.fn.rows))
