-- The planner's rule (01, "The planner's answer"), after Audsley-RR-FPP* of source document 000, with the order of the sets that 02's E7
-- gives. The response-time test, the order of the sets and the search for quanta are parameters. Assumes nothing.
use Rattle.std.specs.Prelude.{ℕ, zero, suc, ◌-◌, Bool, true, false, cond, not, ◌||◌, List, [], ◌∷◌, eqb, ltb, length, get_or}
use Rattle.std.proofs.Math.Option.{Option, none, some}
use Rattle.sets.specs.Places.{every, list_of}
use Rattle.sets.specs.Sets.{Set, has, rest, size, first_jobs}
use Rattle.sets.specs.Order.{order, subsets, first_taken, considered_count}
use Rattle.records.specs.Jobs.{job_at}
use Rattle.records.specs.declared.job.Job.{Job}
use Rattle.periods.specs.ByPeriods.{by_periods}
use Rattle.configuration.specs.declared.setting.Setting.{Setting}
use Rattle.configuration.specs.Settings.{not_placed, fifo, round_robin, setting_at}
use Rattle.response.specs.Demand.{ResponseTest, bound}

-- ---- the smallest of the lists that pass a test, "compared at the first job where two differ"

-- Of n values from x on, the first that has an answer, before that answer.
unfoldable pub first_from : (ℕ → Option (List ℕ)) → ℕ → ℕ → Option (List ℕ)
first_from f x zero = none
first_from f x (suc n) = elim (f x) [ none ↦ first_from f (suc x) n | some v ↦ some (x ∷ v) ]

-- The values at each place are given by the lowest of them and their number. The first place "takes the smallest" value "for which
-- the" places "after it can still be" filled, "and so on".
unfoldable pub smallest : List (ℕ × ℕ) → (List ℕ → Bool) → Option (List ℕ)
smallest [] test = cond (test []) (some []) none
smallest (values ∷ ranges) test = first_from (λ x. smallest ranges (λ v. test (x ∷ v))) values.0 values.1

-- ---- the quanta of a layer

-- From low to high for the layer's jobs, 0 for the others.
abbrev pub quanta_over : ℕ → ℕ → Set → ℕ → ℕ × ℕ
quanta_over low high layer i = cond (layer i) (low, suc high - low) (0, 1)

abbrev pub quantum_ranges : ℕ → ℕ → Set → ℕ → List (ℕ × ℕ)
quantum_ranges low high layer n = list_of (quanta_over low high layer) n

-- Each job of the layer has a bound that is not 0, n being the number of jobs.
unfoldable pub serves_by : ResponseTest → ℕ → Set → Set → List ℕ → Bool
serves_by test n layer above quanta = every (λ k. not (layer k) || ltb 0 (test quanta layer above k)) n

abbrev pub serves : List Job → Set → Set → List ℕ → Bool
serves jobs = serves_by (bound jobs) (length jobs)

-- The quanta with which the set s of the jobs left can be taken, the rest of them above.
unfoldable pub quanta_by : ResponseTest → ℕ → ℕ → ℕ → ℕ → ℕ → Option (List ℕ)
quanta_by test n low high left s = smallest (quantum_ranges low high (has s) n) (serves_by test n (has s) (has (rest left s)))

abbrev pub quanta_for : List Job → ℕ → ℕ → ℕ → ℕ → Option (List ℕ)
quanta_for jobs = quanta_by (bound jobs) (length jobs)

abbrev pub is_found : Option (List ℕ) → Bool
is_found none = false
is_found (some quanta) = true

abbrev pub quanta_in : Option (List ℕ) → List ℕ
quanta_in none = []
quanta_in (some quanta) = quanta

-- ---- one level

-- What stands when the levels below are settled: "the set R of jobs not yet placed", and the settings and bounds so far.
pub record Stage : Type 0 where
  pub left : ℕ
  pub settings : List Setting
  pub bounds : List ℕ

-- The setting of a job in a layer of m jobs. "A set of one takes policy 1 and quantum 0."
unfoldable pub setting_in : ℕ → ℕ → ℕ → ℕ → Setting
setting_in id level m quantum =
    cond (eqb m 1) (record { id = id; level = level; policy = fifo; quantum = 0 }) (record { id = id; level = level; policy = round_robin; quantum = quantum })

abbrev pub setting_left : ℕ → Setting
setting_left id = record { id = id; level = 0; policy = not_placed; quantum = 0 }

-- The places of the set s take the values of f; the others keep theirs.
abbrev pub put : {A : Type 0} → ℕ → Set → (ℕ → A) → (ℕ → A) → List A
put n s f kept = list_of (λ k. cond (s k) (f k) (kept k)) n

-- The set s takes a level with its quanta; "a placed job's bound has R's rest above it".
unfoldable pub place_by : ResponseTest → List Job → ℕ → ℕ → List ℕ → Stage → Stage
place_by test jobs level s quanta stage = record {
  left = rest stage.left s;
  settings = put (length jobs) (has s) (λ k. setting_in (job_at jobs k).id level (size s) (get_or quanta k 0)) (setting_at stage.settings);
  bounds = put (length jobs) (has s) (test quanta (has s) (has (rest stage.left s))) (λ k. get_or stage.bounds k 0);
}

abbrev pub place : List Job → ℕ → ℕ → List ℕ → Stage → Stage
place jobs = place_by (bound jobs) jobs

-- ---- all levels

-- "The first set in the order that can be taken"; 0 where none can.
abbrev pub chosen : (ℕ → ℕ → Option (List ℕ)) → List ℕ → ℕ → ℕ
chosen find sequence left = first_taken (λ s. is_found (find left s)) (subsets left sequence)

-- "From level n towards level 1"; it "stops when R is empty or when no subset can be taken".
unfoldable pub plan_from_by : ResponseTest → List Job → (ℕ → ℕ → Option (List ℕ)) → List ℕ → ℕ → Stage → Stage
plan_from_by test jobs find sequence zero stage = stage
plan_from_by test jobs find sequence (suc level) stage =
    let s = chosen find sequence stage.left in
    elim (eqb s 0) [
      | true ↦ stage
      | false ↦ plan_from_by test jobs find sequence level (place_by test jobs (suc level) s (quanta_in (find stage.left s)) stage)
    ]

abbrev pub plan_from : List Job → (ℕ → ℕ → Option (List ℕ)) → List ℕ → ℕ → Stage → Stage
plan_from jobs = plan_from_by (bound jobs) jobs

unfoldable pub start : List Job → Stage
start jobs = record {
  left = first_jobs (length jobs);
  settings = list_of (λ k. setting_left (job_at jobs k).id) (length jobs);
  bounds = list_of (λ k. 0) (length jobs);
}

-- The planner's answer: "the placed set's number and the count of sets considered", the configuration and the bounds.
pub record Plan : Type 0 where
  pub placed : ℕ
  pub considered : ℕ
  pub settings : List Setting
  pub bounds : List ℕ

abbrev pub plan_over : ResponseTest → List Job → (ℕ → ℕ → Option (List ℕ)) → List ℕ → Plan
plan_over test jobs find sequence =
    let n = length jobs in
    let end = plan_from_by test jobs find sequence n (start jobs) in
    record {
      placed = rest (first_jobs n) end.left;
      considered = considered_count (λ left s. is_found (find left s)) sequence n (first_jobs n);
      settings = end.settings;
      bounds = end.bounds;
    }

abbrev pub plan_by : List Job → (ℕ → ℕ → Option (List ℕ)) → List ℕ → Plan
plan_by jobs = plan_over (bound jobs) jobs

-- The plan of a list and a range by a test: "sets go by size, then by larger sum of periods, then by smaller set number".
abbrev pub plan_with : ResponseTest → List Job → ℕ → ℕ → Plan
plan_with test jobs low high = plan_over test jobs (quanta_by test (length jobs) low high) (by_periods jobs)

-- The plan of a list and a range.
unfoldable pub plan : List Job → ℕ → ℕ → Plan
plan jobs low high = plan_with (bound jobs) jobs low high

-- The plan by 01's order: "among sets of one size the smaller number is first".
unfoldable pub plan_by_number : List Job → ℕ → ℕ → Plan
plan_by_number jobs low high = plan_by jobs (quanta_for jobs low high) order
