use mathlib.Core.Path.{◌≡◌}
use Rattle.sets.specs.Places.{list_of}
use Rattle.records.specs.Limits.{most_jobs}
use Rattle.records.specs.Records.{table}
use Rattle.configuration.specs.Settings.{setting_at}
use Rattle.marker.proofs.levels.quanta_of.Given as goal

abbrev pub invariant-loop-i : goal.invariant-loop-i
invariant-loop-i l = l.quanta ≡ table most_jobs 0 (list_of (λ k. (setting_at l.fn.settings k).quantum) l.i)
