-- The entries bounds and mark: what they answer, what they write, and which refusal applies first. Assumes nothing.
use Rattle.std.specs.Prelude.{ℕ, Result, ◌*◌, Bool, List, ◌++◌, length}
use Rattle.records.specs.Refusals.{Answer, handed, Tests, outcome}
use Rattle.records.specs.Records.{word_of, word_bytes, chunks, written, room_tests}
use Rattle.records.specs.Jobs.{job_list}
use Rattle.records.specs.Calls.{call_tests}
use Rattle.records.specs.declared.job.Job.{Job}
use Rattle.records.specs.declared.refusal.Refusal.{Refusal}
use Rattle.configuration.specs.declared.setting.Setting.{Setting}
use Rattle.configuration.specs.Blocks.{settings_for, settings_of, record_tests, hand_in_tests}
use Rattle.marker.specs.Bounds.{bounds_of, all_served, passes}

-- What mark answers, in 01's numbers and values: whether the configuration passes.
abbrev pub mark_answer : Result Bool Refusal → Answer Bool
mark_answer r = handed r (λ passed. passed)

-- ---- for lists of jobs and settings

-- The size of a bound in bytes.
abbrev pub bound_size : ℕ
bound_size = 2

-- The bounds of n jobs in a block.
abbrev pub bounds_in : ℕ → List ℕ → List ℕ
bounds_in n block = chunks bound_size word_of n block

-- The output with the bounds.
abbrev pub marked : List Job → List Setting → List ℕ → List ℕ
marked jobs settings output = written bound_size word_bytes (bounds_of jobs settings) output

-- Refusal 12 of an output of `room` bytes for the bounds.
abbrev pub bounds_room : List Job → ℕ → Tests
bounds_room jobs room = room_tests (bound_size * length jobs) room

-- The outcomes of put_bounds and of mark_jobs: done, and whether each job is served; and the output at exit.
unfoldable pub put_bounds : List Job → List Setting → List ℕ → Answer (Unit {0}) × List ℕ
put_bounds jobs settings output = outcome (bounds_room jobs (length output)) tt (marked jobs settings output) output

unfoldable pub mark_jobs : List Job → List Setting → List ℕ → Answer Bool × List ℕ
mark_jobs jobs settings output = outcome (bounds_room jobs (length output)) (all_served jobs settings) (marked jobs settings output) output

-- ---- for a list of jobs, a range and a configuration block

-- Refusals 7 to 12.
abbrev pub mark_hand_in_tests : List Job → ℕ → ℕ → List ℕ → ℕ → Tests
mark_hand_in_tests jobs low high configuration room = hand_in_tests jobs low high configuration ++ bounds_room jobs room

-- The outcome of mark_hand_in: whether the configuration passes, and the output at exit.
unfoldable pub mark_hand_in : List Job → ℕ → ℕ → List ℕ → List ℕ → Answer Bool × List ℕ
mark_hand_in jobs low high configuration output =
    let settings = settings_for jobs configuration in
    outcome (mark_hand_in_tests jobs low high configuration (length output)) (passes jobs settings) (marked jobs settings output) output

-- ---- the entries

-- Refusals 1 to 10 and 12.
abbrev pub bounds_tests : List ℕ → ℕ → ℕ → List ℕ → ℕ → Tests
bounds_tests jobs low high configuration room =
    call_tests jobs low high ++ (record_tests (job_list jobs) low high configuration ++ bounds_room (job_list jobs) room)

-- The outcome of bounds: done, and the output at exit.
unfoldable pub bounds_outcome : List ℕ → ℕ → ℕ → List ℕ → List ℕ → Answer (Unit {0}) × List ℕ
bounds_outcome jobs low high configuration output =
    outcome (bounds_tests jobs low high configuration (length output)) tt (marked (job_list jobs) (settings_of jobs configuration) output) output

-- Refusals 1 to 12.
abbrev pub mark_tests : List ℕ → ℕ → ℕ → List ℕ → ℕ → Tests
mark_tests jobs low high configuration room =
    call_tests jobs low high ++ (hand_in_tests (job_list jobs) low high configuration ++ bounds_room (job_list jobs) room)

-- The outcome of mark: whether the configuration passes, and the output at exit.
unfoldable pub mark_outcome : List ℕ → ℕ → ℕ → List ℕ → List ℕ → Answer Bool × List ℕ
mark_outcome jobs low high configuration output =
    outcome (mark_tests jobs low high configuration (length output)) (passes (job_list jobs) (settings_of jobs configuration)) (marked (job_list jobs) (settings_of jobs configuration) output) output
