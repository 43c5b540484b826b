use mathlib.Core.Path.{◌≡◌}
use Rattle.sets.specs.Places.{list_of}
use Rattle.records.specs.Limits.{most_jobs}
use Rattle.records.specs.Records.{table}
use Rattle.records.specs.Jobs.{job_at}
use Rattle.finishes.specs.Finishes.{utilisation}
use Rattle.finishes.proofs.capacity.utilisations_of.Given as goal

abbrev pub invariant-loop-i : goal.invariant-loop-i
invariant-loop-i l = (l.utilisations ≡ table most_jobs 0 (list_of (λ k. utilisation (job_at l.fn.jobs k)) l.i))
