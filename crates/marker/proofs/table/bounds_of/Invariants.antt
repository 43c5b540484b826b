use mathlib.Core.Path.{◌≡◌}
use lib.ListN.{take}
use Rattle.sets.specs.Places.{list_of}
use Rattle.records.specs.Limits.{most_jobs}
use Rattle.records.specs.Records.{table}
use Rattle.marker.specs.Bounds.{bound_at}
use Rattle.marker.proofs.table.bounds_of.Given as goal

abbrev pub invariant-loop-k : goal.invariant-loop-k
invariant-loop-k l = l.bounds ≡ table most_jobs 0 (list_of (bound_at (take l.count l.workload.jobs) l.settings) l.k)
