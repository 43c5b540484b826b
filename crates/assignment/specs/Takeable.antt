-- When a set of jobs can be taken (01, "The planner's answer"). Assumes nothing.
use Rattle.std.specs.Prelude.{ℕ, ◌≤◌, ◌<◌, ◌≡◌, true, ◌⊎◌, List, length, get_or}
use Rattle.sets.specs.Sets.{Set, Sub, but, Alone}
use Rattle.records.specs.declared.job.Job.{Job}
use Rattle.response.specs.Demand.{bound}

-- The set s of jobs of r can be taken: "it is not empty and some quanta" that the rule permits serve "each of its jobs", "the set being
-- one layer with the rest of R above and all other jobs below". n is the number of jobs; Permit and Served may be any rule on a layer's
-- quanta and any test of a job.
pub record Takeable (n : ℕ) (Quanta : Type 0) (Permit : Quanta → Set → Type 0) (Served : Quanta → Set → Set → ℕ → Type 0) (r s : Set) : Type 0 where
  pub some : (k : ℕ) × (k < n) × (s k ≡ true)
  pub sub : Sub n s r
  pub quanta : Quanta
  pub permit : Permit quanta s
  pub served : (k : ℕ) → k < n → s k ≡ true → Served quanta s (but r s) k

-- The quanta of the layer s are in range; a job alone on its level has none.
abbrev pub Permitted : ℕ → ℕ → ℕ → List ℕ → Set → Type 0
Permitted n low high quanta s = (k : ℕ) → k < n → s k ≡ true → Alone n s k ⊎ ((low ≤ get_or quanta k 0) × (get_or quanta k 0 ≤ high))

-- The job k has "a bound that is not 0".
abbrev pub Served : List Job → List ℕ → Set → Set → ℕ → Type 0
Served jobs quanta layer above k = 0 < bound jobs quanta layer above k

-- The set s of jobs of r can be taken, under a rule on quanta; and with a quantum per job, each in range.
abbrev pub TakeableBy : List Job → (List ℕ → Set → Type 0) → Set → Set → Type 0
TakeableBy jobs Permit = Takeable (length jobs) (List ℕ) Permit (Served jobs)

abbrev pub CanTake : List Job → ℕ → ℕ → Set → Set → Type 0
CanTake jobs low high = TakeableBy jobs (Permitted (length jobs) low high)
