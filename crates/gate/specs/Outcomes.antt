-- The planner and the marker for a box with limits: what they answer, what they write, and which refusal applies first. They are the mats'
-- with refusal 15 after 6 (02, E8). Assumes nothing.
use Rattle.std.specs.Prelude.{ℕ, Bool, List, ◌++◌, length}
use Rattle.records.specs.Refusals.{Answer, Tests, outcome}
use Rattle.records.specs.Jobs.{job_list}
use Rattle.configuration.specs.Blocks.{settings_of}
use Rattle.limits.specs.declared.Limits.{Limits}
use Rattle.limits.specs.Boxes.{limited_tests}
use Rattle.marker.specs.Bounds.{passes}
use Rattle.marker.specs.Marks.{marked, mark_hand_in_tests}
use Rattle.assignment.specs.Plan.{plan}
use Rattle.planner.specs.Plans.{Outcome, output_tests, values, written_by}

-- Refusals 1 2 3 5 6 15 12.
abbrev pub plan_within_tests : Limits → List ℕ → ℕ → ℕ → ℕ → ℕ → Tests
plan_within_tests limits jobs low high settings_length bounds_length = limited_tests limits jobs low high ++ output_tests (job_list jobs) settings_length bounds_length

-- The outcome of plan_within: the values of the plan, and both outputs at exit.
unfoldable pub plan_within : Limits → List ℕ → ℕ → ℕ → List ℕ → List ℕ → Outcome
plan_within limits jobs low high configuration bounds =
    let p = plan (job_list jobs) low high in
    outcome (plan_within_tests limits jobs low high (length configuration) (length bounds)) (values p) (written_by p configuration bounds) (configuration, bounds)

-- Refusals 1 2 3 5 6 15 7 8 9 10 11 12.
abbrev pub mark_within_tests : Limits → List ℕ → ℕ → ℕ → List ℕ → ℕ → Tests
mark_within_tests limits jobs low high configuration room = limited_tests limits jobs low high ++ mark_hand_in_tests (job_list jobs) low high configuration room

-- The outcome of mark_within: whether the configuration passes, and the output at exit.
unfoldable pub mark_within : Limits → List ℕ → ℕ → ℕ → List ℕ → List ℕ → Answer Bool × List ℕ
mark_within limits jobs low high configuration output =
    outcome (mark_within_tests limits jobs low high configuration (length output)) (passes (job_list jobs) (settings_of jobs configuration)) (marked (job_list jobs) (settings_of jobs configuration) output) output
