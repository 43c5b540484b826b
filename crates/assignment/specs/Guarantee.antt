-- What the planner's answer promises: demand 3, a field for each of its sentences. Assumes nothing.
use Rattle.std.specs.Prelude.{ℕ, ◌-◌, ◌^◌, ◌≤◌, ◌<◌, ◌≡◌, true, false, not, ◌↔◌, List, length}
use Rattle.sets.specs.Sets.{Set, has}
use Rattle.records.specs.declared.job.Job.{Job}
use Rattle.configuration.specs.declared.setting.Setting.{Setting}
use Rattle.configuration.specs.Configuration.{Configuration, is_placed, full}
use Rattle.marker.specs.Bounds.{bound_at, bounds_of, passes}
use Rattle.assignment.specs.Plan.{Plan}
use Rattle.assignment.specs.Takeable.{TakeableBy, Permitted}

-- "The jobs placed are those with policy 1 or 2 in the configuration returned, and the jobs left are the others."
abbrev pub left_by : Plan → Set
left_by plan k = not (is_placed plan.settings k)

-- Of a list of jobs, over the configurations that are Allowed; Permit is the rule on a layer's quanta by which sets are taken.
pub record GuaranteeOver (jobs : List Job) (Allowed : List Setting → Type 0) (Permit : List ℕ → Set → Type 0) (plan : Plan) : Type 0 where
  -- The answer is a configuration, its bounds are the marker's, and its set's number tells the jobs placed.
  pub allowed : Allowed plan.settings
  pub bounds : plan.bounds ≡ bounds_of jobs plan.settings
  pub placed : (k : ℕ) → k < length jobs → has plan.placed k ≡ is_placed plan.settings k
  -- "The planner places every job exactly when some configuration of that list, with levels, policies and quanta in range, passes the
  -- test, and the configuration it returns is then such a one."
  pub all : (full jobs plan.settings ≡ true) ↔ ((settings : List Setting) × Allowed settings × (passes jobs settings ≡ true))
  pub returned : full jobs plan.settings ≡ true → passes jobs plan.settings ≡ true
  -- "Each job it placed has a bound that is not 0 in the configuration it returns."
  pub served : (k : ℕ) → k < length jobs → is_placed plan.settings k ≡ true → 0 < bound_at jobs plan.settings k
  -- "No set of the jobs it left can be taken with the rest of them above."
  pub last : (s : Set) → TakeableBy jobs Permit (left_by plan) s → ⊥
  -- When it stops short: "every configuration of that list in those ranges, full or not, makes at least one of the jobs left fail, that
  -- is, gives it bound 0".
  pub fails : full jobs plan.settings ≡ false → (settings : List Setting) → Allowed settings
      → (k : ℕ) × (k < length jobs) × (left_by plan k ≡ true) × (bound_at jobs settings k ≡ 0)
  -- "For n jobs the count never exceeds 2 to the power n, less 1."
  pub ceiling : plan.considered ≤ 2 ^ length jobs - 1

-- Of a list and a range: over every configuration that refusals 7 to 10 let by, with a quantum per job.
abbrev pub Guarantee : List Job → ℕ → ℕ → Plan → Type 0
Guarantee jobs low high = GuaranteeOver jobs (Configuration jobs low high) (Permitted (length jobs) low high)
