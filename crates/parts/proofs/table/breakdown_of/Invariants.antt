use mathlib.Core.Path.{◌≡◌}
use lib.ListN.{take}
use Rattle.sets.specs.Places.{list_of}
use Rattle.records.specs.Limits.{most_jobs}
use Rattle.records.specs.Records.{table}
use Rattle.response.specs.Breakdown.{no_parts}
use Rattle.parts.specs.Breakdowns.{parts_in}
use Rattle.parts.proofs.table.breakdown_of.Given as goal

abbrev pub invariant-loop-k : goal.invariant-loop-k
invariant-loop-k l = l.parts ≡ table most_jobs no_parts (list_of (parts_in (take l.count l.workload.jobs) l.settings) l.k)
