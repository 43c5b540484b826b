-- The worked exam lists K1 to K9 and their answers (01, "Worked exam lists"; K4, K7 and K9 with E7's answers). Assumes nothing.
use Rattle.std.specs.Prelude.{ℕ, Bool, true, false, List, [], ◌∷◌}
use Rattle.records.specs.declared.job.Job.{Job}
use Rattle.configuration.specs.declared.setting.Setting.{Setting}
use Rattle.marker.specs.Bounds.{bounds_of, passes}
use Rattle.assignment.specs.Plan.{plan}

-- A job with its C, T and D, and a setting with its level, policy and quantum.
abbrev job : ℕ → ℕ → ℕ → ℕ → Job
job id cost period deadline = record { id = id; delay = 0; cost = cost; period = period; deadline = deadline }

abbrev set : ℕ → ℕ → ℕ → ℕ → Setting
set id level policy quantum = record { id = id; level = level; policy = policy; quantum = quantum }

-- What is asked: a plan for a list and a range, or the marking of a configuration of a list.
pub data Question : Type 0 where
  plans : List Job → ℕ → ℕ → Question
  marks : List Job → List Setting → Question

-- What is answered: the placed set, the count of sets considered, the configuration and the bounds; or the bounds, and whether it passes.
pub data Answer : Type 0 where
  planned : ℕ → ℕ → List Setting → List ℕ → Answer
  marked : List ℕ → Bool → Answer

-- The answer that the planner's rule or the test gives.
unfoldable pub answered : Question → Answer
answered (plans jobs low high) = let p = plan jobs low high in planned p.placed p.considered p.settings p.bounds
answered (marks jobs settings) = marked (bounds_of jobs settings) (passes jobs settings)

-- The jobs of K2, K3, K5 and K6, and those of K7.
abbrev k2 : List Job
k2 = job 1 6 8 8 ∷ job 2 5 22 22 ∷ []

abbrev k7 : List Job
k7 = job 1 6 8 8 ∷ job 2 5 23 23 ∷ []

-- K1 to K9 in turn, K7 marked and planned.
unfoldable pub cases : List (Question × Answer)
cases =
    (plans (job 1 2 5 5 ∷ []) 1 4, planned 1 1 (set 1 1 1 0 ∷ []) (2 ∷ []))
    ∷ (plans k2 1 4, planned 3 3 (set 1 2 2 3 ∷ set 2 2 2 1 ∷ []) (8 ∷ 20 ∷ []))
    ∷ (plans k2 1 2, planned 0 3 (set 1 0 0 0 ∷ set 2 0 0 0 ∷ []) (0 ∷ 0 ∷ []))
    ∷ (plans (job 1 1 4 4 ∷ job 2 2 6 6 ∷ job 3 3 12 12 ∷ []) 1 4, planned 7 3 (set 1 1 1 0 ∷ set 2 2 1 0 ∷ set 3 3 1 0 ∷ []) (1 ∷ 3 ∷ 10 ∷ []))
    ∷ (marks k2 (set 1 2 2 4 ∷ set 2 2 2 1 ∷ []), marked (8 ∷ 0 ∷ []) false)
    ∷ (marks k2 (set 1 1 1 0 ∷ set 2 2 1 0 ∷ []), marked (6 ∷ 0 ∷ []) false)
    ∷ (marks k7 (set 1 1 1 0 ∷ set 2 2 1 0 ∷ []), marked (6 ∷ 23 ∷ []) true)
    ∷ (plans k7 1 4, planned 3 2 (set 1 1 1 0 ∷ set 2 2 1 0 ∷ []) (6 ∷ 23 ∷ []))
    ∷ (plans (job 1 1 1 1 ∷ job 2 1 1 1 ∷ []) 1 4, planned 0 3 (set 1 0 0 0 ∷ set 2 0 0 0 ∷ []) (0 ∷ 0 ∷ []))
    ∷ (plans (job 1 6 8 8 ∷ job 2 5 22 22 ∷ job 3 1 100 100 ∷ []) 1 2, planned 4 4 (set 1 0 0 0 ∷ set 2 0 0 0 ∷ set 3 3 1 0 ∷ []) (0 ∷ 0 ∷ 64 ∷ []))
    ∷ []
