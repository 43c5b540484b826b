use Rattle.sets.specs.Sets.{remove}
use Rattle.search.proofs.workload.Workload.+bound.Given as goal

-- The neighbours, as the number of their set.
abbrev pub decreases-bound : goal.decreases-bound
decreases-bound l = remove l.layer l.job
