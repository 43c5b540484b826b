-- What is printed of a hand-in that is marked, and of the bounds of a configuration. Assumes nothing.
use Rattle.std.specs.Prelude.{ℕ, Bool, cond, List, [], ◌∷◌, ◌++◌, eqb, ltb, length, get_or}
use Rattle.std.proofs.lemmas.List.Edits.{sets}
use Rattle.sets.specs.Places.{every}
use Rattle.records.specs.Refusals.{Answer, outcome}
use Rattle.records.specs.Jobs.{job_at, job_list}
use Rattle.records.specs.Calls.{call_tests}
use Rattle.records.specs.declared.job.Job.{Job}
use Rattle.configuration.specs.Blocks.{settings_of, record_tests, hand_in_tests}
use Rattle.marker.specs.Bounds.{bounds_of, all_served, passes}
use Rattle.lists.specs.Decimals.{space, line_feed, decimal}
use Rattle.writing.specs.Templates.{rows_to, filled}
use Rattle.text.specs.Keys.{job_line}

-- The line of the job at place k: `job 1: bound 8, deadline 8`, or `job 2: no bound up to its deadline 22`.
abbrev pub mark_line : List Job → List ℕ → ℕ → List ℕ
mark_line jobs bounds k =
    cond (eqb (get_or bounds k 0) 0)
    (filled (106 ∷ 111 ∷ 98 ∷ 32 ∷ 37 ∷ 58 ∷ 32 ∷ 110 ∷ 111 ∷ 32 ∷ 98 ∷ 111 ∷ 117 ∷ 110 ∷ 100 ∷ 32 ∷ 117 ∷ 112 ∷ 32 ∷ 116 ∷ 111 ∷ 32 ∷ 105 ∷ 116 ∷ 115 ∷ 32 ∷ 100 ∷ 101 ∷ 97 ∷ 100 ∷ 108 ∷ 105 ∷ 110 ∷ 101 ∷ 32 ∷ 37 ∷ 10 ∷ []) ((job_at jobs k).id ∷ (job_at jobs k).deadline ∷ []))
    (filled (106 ∷ 111 ∷ 98 ∷ 32 ∷ 37 ∷ 58 ∷ 32 ∷ 98 ∷ 111 ∷ 117 ∷ 110 ∷ 100 ∷ 32 ∷ 37 ∷ 44 ∷ 32 ∷ 100 ∷ 101 ∷ 97 ∷ 100 ∷ 108 ∷ 105 ∷ 110 ∷ 101 ∷ 32 ∷ 37 ∷ 10 ∷ []) ((job_at jobs k).id ∷ get_or bounds k 0 ∷ (job_at jobs k).deadline ∷ []))

-- A space and the id of the job at place k, where it has no bound.
abbrev pub over_text : List Job → List ℕ → ℕ → List ℕ
over_text jobs bounds k = cond (eqb (get_or bounds k 0) 0) (space ∷ decimal (job_at jobs k).id) []

-- `fails:` and the jobs that have no bound.
abbrev pub fails_line : ℕ → List Job → List ℕ → List ℕ
fails_line n jobs bounds = (102 ∷ 97 ∷ 105 ∷ 108 ∷ 115 ∷ 58 ∷ []) ++ (rows_to (over_text jobs bounds) n ++ (line_feed ∷ []))

-- None of n bounds is 0.
abbrev pub none_over : ℕ → List ℕ → Bool
none_over n bounds = every (λ k. ltb 0 (get_or bounds k 0)) n

-- `passes`, or which jobs have no bound.
abbrev pub verdict_line : ℕ → List Job → List ℕ → List ℕ
verdict_line n jobs bounds = cond (none_over n bounds) (112 ∷ 97 ∷ 115 ∷ 115 ∷ 101 ∷ 115 ∷ 10 ∷ []) (fails_line n jobs bounds)

-- All that is printed of n jobs with their bounds.
unfoldable pub marks_text : ℕ → List Job → List ℕ → List ℕ
marks_text n jobs bounds = rows_to (mark_line jobs bounds) n ++ verdict_line n jobs bounds

-- ---- the outcomes of marks and of bounds

-- The jobs and the bounds of a call; the verdict's line begins after the jobs' lines.
abbrev pub marks_bounds : List ℕ → List ℕ → List ℕ
marks_bounds jobs configuration = bounds_of (job_list jobs) (settings_of jobs configuration)

abbrev pub marks_of : List ℕ → List ℕ → List ℕ
marks_of jobs configuration = marks_text (length (job_list jobs)) (job_list jobs) (marks_bounds jobs configuration)

abbrev pub marks_last : List ℕ → List ℕ → ℕ
marks_last jobs configuration = length (rows_to (mark_line (job_list jobs) (marks_bounds jobs configuration)) (length (job_list jobs)))

-- Refusals 1 to 11, whether the configuration passes, and the output with the text.
unfoldable pub marks_outcome : List ℕ → ℕ → ℕ → List ℕ → List ℕ → Answer (Bool × (ℕ × ℕ)) × List ℕ
marks_outcome jobs low high configuration output =
    let text = marks_of jobs configuration in
    outcome (call_tests jobs low high ++ (hand_in_tests (job_list jobs) low high configuration ++ []))
    (passes (job_list jobs) (settings_of jobs configuration), (marks_last jobs configuration, length text)) (sets output 0 text) output

-- The lines of a configuration as a key has them, full or not: id, level, policy, quantum and bound.
abbrev pub bounds_text : List ℕ → List ℕ → List ℕ
bounds_text jobs configuration = rows_to (job_line (settings_of jobs configuration) (marks_bounds jobs configuration)) (length (job_list jobs))

-- Refusals 1 to 10, whether each job is served, and the output with the text, all of which are the jobs' lines.
unfoldable pub bounds_told : List ℕ → ℕ → ℕ → List ℕ → List ℕ → Answer (Bool × (ℕ × ℕ)) × List ℕ
bounds_told jobs low high configuration output =
    let text = bounds_text jobs configuration in
    outcome (call_tests jobs low high ++ (record_tests (job_list jobs) low high configuration ++ []))
    (all_served (job_list jobs) (settings_of jobs configuration), (length text, length text)) (sets output 0 text) output
