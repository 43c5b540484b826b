-- The plan of a table, and the entry plan: what they answer, what is written, which refusal applies first, and what they promise.
-- Assumes nothing.
use Rattle.std.specs.Prelude.{ℕ, Result, ◌*◌, ◌≤◌, ◌<◌, ◌≡◌, true, ◌↔◌, List, ◌++◌, length, take, drop}
use Rattle.sets.specs.Sets.{has}
use Rattle.records.specs.Refusals.{Answer, given, Tests, outcome, answer, handed}
use Rattle.records.specs.Records.{word_bytes, flat, written, room_tests}
use Rattle.records.specs.Jobs.{job_count, job_list}
use Rattle.records.specs.Calls.{call_tests, question_tests}
use Rattle.records.specs.declared.job.Job.{Job}
use Rattle.records.specs.declared.range.Range.{Range}
use Rattle.records.specs.declared.refusal.Refusal.{Refusal}
use Rattle.configuration.specs.Settings.{setting_size, setting_bytes, setting_table}
use Rattle.configuration.specs.Blocks.{settings_of, read_configuration}
use Rattle.marker.specs.Marks.{bound_size, bounds_in, bounds_outcome, mark_outcome}
use Rattle.assignment.specs.Plan.{Plan, plan, plan_by_number}
use Rattle.assignment.specs.Guarantee.{Guarantee}
use Rattle.planner.specs.declared.Planned.{Planned}
use Rattle.planner.specs.declared.table.TablePlan.{TablePlan}

-- ---- the plan of a table, in tables

-- The plan of n jobs that tables hold.
abbrev pub plan_in : ℕ → TablePlan → Plan
plan_in n r = record { placed = r.placed; considered = r.considered; settings = take n r.settings; bounds = take n r.bounds }

-- What plan_table answers: the number of jobs, n, and the plan.
abbrev pub planned : ℕ → Result TablePlan Refusal → Answer (ℕ × Plan)
planned n r = handed r (λ p. (n, plan_in n p))

-- What plan_table promises: the plan of the list, and demand 3 of what is given.
pub record TablePromise (jobs : List Job) (n : ℕ) (range : Range) (got : Answer (ℕ × Plan)) : Type 0 where
  pub is : got ≡ answer (question_tests n jobs range) (n, plan (take n jobs) range.low range.high)
  pub guarantee : (p : Plan) → got ≡ given (n, p) → Guarantee (take n jobs) range.low range.high p

-- ---- the plan of a table, written

-- What plan answers, in 01's numbers and values: the placed set's number, and the count of sets considered.
abbrev pub plan_answer : Result Planned Refusal → Answer (ℕ × ℕ)
plan_answer r = handed r (λ p. (p.placed, p.considered))

-- The answer, and both outputs.
abbrev pub Outcome : Type 0
Outcome = Answer (ℕ × ℕ) × (List ℕ × List ℕ)

abbrev pub answered : Result Planned Refusal → List ℕ → List ℕ → Outcome
answered r configuration bounds = (plan_answer r, (configuration, bounds))

-- Refusal 12 of outputs for the settings and the bounds of a list of jobs.
abbrev pub output_tests : List Job → ℕ → ℕ → Tests
output_tests jobs settings_length bounds_length = room_tests (setting_size * length jobs) settings_length ++ room_tests (bound_size * length jobs) bounds_length

-- The plan's values, and the outputs with its configuration and its bounds.
abbrev pub values : Plan → ℕ × ℕ
values p = (p.placed, p.considered)

abbrev pub written_by : Plan → List ℕ → List ℕ → List ℕ × List ℕ
written_by p configuration bounds = (written setting_size setting_bytes p.settings configuration, written bound_size word_bytes p.bounds bounds)

-- The outcome of put_plan for the first n jobs of a table and a range: configuration and bounds are the two outputs at entry.
unfoldable pub put_plan : List Job → ℕ → Range → List ℕ → List ℕ → Outcome
put_plan jobs n range configuration bounds =
    let p = plan (take n jobs) range.low range.high in
    outcome (question_tests n jobs range ++ output_tests (take n jobs) (length configuration) (length bounds)) (values p) (written_by p configuration bounds) (configuration, bounds)

-- ---- the entry

abbrev pub plan_tests : List ℕ → ℕ → ℕ → ℕ → ℕ → Tests
plan_tests jobs low high settings_length bounds_length = call_tests jobs low high ++ output_tests (job_list jobs) settings_length bounds_length

-- The outcome of plan.
unfoldable pub plan_outcome : List ℕ → ℕ → ℕ → List ℕ → List ℕ → Outcome
plan_outcome jobs low high configuration bounds =
    let p = plan (job_list jobs) low high in
    outcome (plan_tests jobs low high (length configuration) (length bounds)) (values p) (written_by p configuration bounds) (configuration, bounds)

-- ---- demand 3, of what a caller holds

-- The plan that two values and two blocks tell: the placed set's number and the count of sets considered, and a record for each job.
abbrev pub plan_held : List ℕ → ℕ × ℕ → List ℕ → List ℕ → Plan
plan_held jobs told configuration bounds =
    record { placed = told.0; considered = told.1; settings = settings_of jobs configuration; bounds = bounds_in (job_count jobs) bounds }

-- Each of n jobs is in the set with that number.
abbrev pub AllPlaced : ℕ → ℕ → Type 0
AllPlaced n placed = (k : ℕ) → k < n → has placed k ≡ true

-- Of the values and the blocks that a planner gave for a job block and a range.
pub record Held (jobs : List ℕ) (low high : ℕ) (told : ℕ × ℕ) (configuration bounds : List ℕ) : Type 0 where
  -- They are the plan, and read_configuration reads its configuration.
  pub is : plan_held jobs told configuration bounds ≡ plan (job_list jobs) low high
  pub read : read_configuration jobs low high configuration ≡ (given (job_count jobs), setting_table (plan (job_list jobs) low high).settings)
  -- `bounds` writes the same bytes for it, and `mark` passes it exactly if every job was placed.
  pub again : (output : List ℕ) → bound_size * job_count jobs ≤ length output
      → bounds_outcome jobs low high configuration output ≡ (given tt, bounds ++ drop (bound_size * job_count jobs) output)
  pub passes : (output : List ℕ) → bound_size * job_count jobs ≤ length output
      → ((mark_outcome jobs low high configuration output).0 ≡ given true) ↔ AllPlaced (job_count jobs) told.0
  -- Demand 3.
  pub guarantee : Guarantee (job_list jobs) low high (plan_held jobs told configuration bounds)
  -- E7: "Which set of jobs ends up placed is the same under both orders", the order by periods and 01's.
  pub orders : told.0 ≡ (plan_by_number (job_list jobs) low high).placed

-- The blocks of a plan, and those that outputs begin with.
abbrev pub HeldIn : List ℕ → ℕ → ℕ → ℕ × ℕ → List ℕ × List ℕ → Type 0
HeldIn jobs low high told outputs = Held jobs low high told (take (setting_size * job_count jobs) outputs.0) (take (bound_size * job_count jobs) outputs.1)

abbrev pub PlanHeld : List ℕ → ℕ → ℕ → Plan → Type 0
PlanHeld jobs low high p = Held jobs low high (values p) (flat setting_bytes p.settings) (flat word_bytes p.bounds)

-- What plan promises: its outcome, and demand 3 of what every accepted call gives.
pub record Promise (jobs : List ℕ) (low high : ℕ) (configuration bounds : List ℕ) (got : Outcome) : Type 0 where
  pub is : got ≡ plan_outcome jobs low high configuration bounds
  pub guarantee : (told : ℕ × ℕ) → got.0 ≡ given told → HeldIn jobs low high told got.1
