use mathlib.Core.Path.{◌≡◌}
use Rattle.records.specs.Limits.{most_jobs}
use Rattle.search.specs.Search.{drops, drop_from}
use Rattle.search.proofs.unassignable.drop_served.Given as goal

abbrev pub invariant-loop-job : goal.invariant-loop-job
invariant-loop-job l = drop_from (drops l.workload) most_jobs l.set ≡ drop_from (drops l.workload) l.job l.kept
