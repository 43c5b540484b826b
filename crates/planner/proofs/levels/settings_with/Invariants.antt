use Prim.Native.Nat.{ℕ}
use mathlib.Core.Path.{◌≡◌}
use mathlib.Core.Bool.{cond}
use mathlib.Core.List.{List}
use lib.ListN.{get_or}
use Rattle.sets.specs.Places.{list_of}
use Rattle.sets.specs.Sets.{has, size}
use Rattle.records.specs.Jobs.{job_at}
use Rattle.configuration.specs.declared.setting.Setting.{Setting}
use Rattle.configuration.specs.Settings.{setting_at, setting_table}
use Rattle.assignment.specs.Plan.{setting_in}
use Rattle.planner.specs.declared.question.Question.{Question}
use Rattle.planner.proofs.levels.settings_with.Given as goal

-- The setting of the job at place k.
abbrev pub next-at : Question → List Setting → ℕ → ℕ → List ℕ → ℕ → Setting
next-at question settings level set quanta k =
    cond (has set k) (setting_in (job_at question.workload.jobs k).id level (size set) (get_or quanta k 0)) (setting_at settings k)

abbrev pub invariant-loop-k : goal.invariant-loop-k
invariant-loop-k l = l.next ≡ setting_table (list_of (next-at l.fn.question l.settings l.level l.set l.quanta) l.k)
