-- How the quanta of a layer are settled: they are raised from the lowest and never above a list that serves the layer. These are the
-- terms in which the code that raises them is compared with the search through all lists. Assumes nothing.
use Rattle.std.specs.Prelude.{ℕ, Option, None, Some, ◌+◌, ◌≤◌, ◌<◌, ◌≡◌, true, false, List, [], ◌∷◌, length, get_or}
use Rattle.std.proofs.Math.Option.{none}
use Rattle.sets.specs.Sets.{Set}
use Rattle.records.specs.declared.job.Job.{Job}
use Rattle.response.specs.Demand.{bound}
use Rattle.assignment.specs.Plan.{smallest, quantum_ranges, serves}

-- A list with one of the permitted values at each place.
abbrev pub Fits : List (ℕ × ℕ) → List ℕ → Type 0
Fits [] [] = Unit {0}
Fits [] (x ∷ v) = ⊥
Fits (values ∷ ranges) [] = ⊥
Fits (values ∷ ranges) (x ∷ v) = (values.0 ≤ x) × (x < values.0 + values.1) × Fits ranges v

abbrev pub Below : List ℕ → List ℕ → Type 0
Below v w = (i : ℕ) → get_or v i 0 ≤ get_or w i 0

-- At no place above a list that serves the layer.
abbrev pub Low : List Job → ℕ → ℕ → Set → Set → List ℕ → Type 0
Low jobs low high layer above quanta =
    (w : List ℕ) → Fits (quantum_ranges low high layer (length jobs)) w → serves jobs layer above w ≡ true → Below quanta w

-- The quanta while they are raised.
pub record Standing (jobs : List Job) (low high : ℕ) (layer above : Set) (quanta : List ℕ) : Type 0 where
  pub long : length jobs ≤ length quanta
  pub in_range : (i : ℕ) → i < length jobs → layer i ≡ true → (low ≤ get_or quanta i 0) × (get_or quanta i 0 ≤ high)
  pub zero : (i : ℕ) → i < length jobs → layer i ≡ false → get_or quanta i 0 ≡ 0
  pub least : Low jobs low high layer above quanta

-- No quanta serve the layer.
abbrev pub Hopeless : List Job → ℕ → ℕ → Set → Set → Type 0
Hopeless jobs low high layer above = smallest (quantum_ranges low high layer (length jobs)) (serves jobs layer above) ≡ none

-- Only the quantum of the job k was raised.
pub record Raised (jobs : List Job) (low high : ℕ) (layer above : Set) (k : ℕ) (before after : List ℕ) : Type 0 where
  pub standing : Standing jobs low high layer above after
  pub kept : (i : ℕ) → (i ≡ k → ⊥) → get_or after i 0 ≡ get_or before i 0
  pub rises : get_or before k 0 ≤ get_or after k 0

-- What raising answers: found and served, or hopeless.
abbrev pub Raises : List Job → ℕ → ℕ → Set → Set → ℕ → List ℕ → Option (List ℕ) → Type 0
Raises jobs low high layer above k before (Some after) = Raised jobs low high layer above k before after × (0 < bound jobs after layer above k)
Raises jobs low high layer above k before None = Hopeless jobs low high layer above

-- The pending jobs are served, and only their quanta were raised.
pub record Settled (jobs : List Job) (low high : ℕ) (layer above pending : Set) (before after : List ℕ) : Type 0 where
  pub standing : Standing jobs low high layer above after
  pub kept : (i : ℕ) → pending i ≡ false → get_or after i 0 ≡ get_or before i 0
  pub served : (k : ℕ) → k < length jobs → pending k ≡ true → 0 < bound jobs after layer above k

-- What settling answers: found and settled, or hopeless.
abbrev pub Settles : List Job → ℕ → ℕ → Set → Set → Set → List ℕ → Option (List ℕ) → Type 0
Settles jobs low high layer above pending before (Some after) = Settled jobs low high layer above pending before after
Settles jobs low high layer above pending before None = Hopeless jobs low high layer above
