use mathlib.Core.Path.{◌≡◌}
use Rattle.sets.specs.Places.{list_of}
use Rattle.records.specs.Jobs.{job_at}
use Rattle.configuration.specs.Settings.{setting_table}
use Rattle.assignment.specs.Plan.{setting_left}
use Rattle.planner.proofs.levels.start.Given as goal

abbrev pub invariant-loop-k : goal.invariant-loop-k
invariant-loop-k l = l.settings ≡ setting_table (list_of (λ i. setting_left (job_at l.question.workload.jobs i).id) l.k)
