-- The quanta that serve a layer: raising the quantum of a job that is not served, from the lowest quanta on, comes to the smallest list,
-- or to the highest quantum where there is none. Assumes nothing.
use Prim.Native.Nat.{ℕ, suc, ◌+◌, ◌-◌, ◌≤◌, ◌<◌}
use mathlib.Core.Path.{◌≡◌, refl, sym, ap, ◌∙◌}
use mathlib.Core.Bool.{Bool, true, false, cond, not, ◌||◌}
use mathlib.Core.List.{List}
use mathlib.Core.Option.{some}
use native.Mathlib.Decide.{ℕ_discrete, dec_le}
use native.Mathlib.Omega.{arith}
use lib.Dec.{ltb}
use lib.ListN.{length, get_or, set}
use lib.Seq.{get_or-set_same, get_or-set_other}
use borrow.Author.Tests.{ltb-true, lt-ltb}
use Rattle.sets.specs.Sets.{Set}
use Rattle.sets.proofs.Places.{every-at, every_of, list_at, list_length}
use Rattle.records.specs.Jobs.{job_at}
use Rattle.records.specs.declared.job.Job.{Job}
use Rattle.response.specs.Demand.{bound}
use Rattle.response.proofs.Easier.{easier, lighter-quanta, others-mono}
use Rattle.assignment.specs.Plan.{smallest, quanta_over, quantum_ranges, serves, serves_by}
use Rattle.assignment.specs.Layers.{Fits, Low, Hopeless}
use Rattle.assignment.proofs.Smallest.{smallest-least, smallest-none, fits-at, fits-of}

-- What is used of an accepted list: each job has a cost.
abbrev pub Costs : List Job → Type 0
Costs jobs = (k : ℕ) → k < length jobs → 0 < (job_at jobs k).cost

-- ---- lists in range

module _ (low high : ℕ) (layer : Set) (n : ℕ) where
  abbrev ranges : List (ℕ × ℕ)
  ranges = quantum_ranges low high layer n

  ranges-length : length ranges ≡ n
  ranges-length = list_length (quanta_over low high layer) n

  at : (i : ℕ) → i < n → get_or ranges i (0, 0) ≡ quanta_over low high layer i
  at i l = list_at (quanta_over low high layer) n i (0, 0) l

  module _ (w : List ℕ) (f : Fits ranges w) (i : ℕ) (l : i < n) where
    value : ((get_or ranges i (0, 0)).0 ≤ get_or w i 0) × (get_or w i 0 < (get_or ranges i (0, 0)).0 + (get_or ranges i (0, 0)).1)
    value = fits-at ranges w f i (omega (arith, ranges-length))

    pub in-range : layer i ≡ true → (low ≤ get_or w i 0) × (get_or w i 0 ≤ high)
    in-range e = let v = rw (at i l, e) at value in (v.0, omega (arith, v.0, v.1))

  pub ranged-fits : (v : List ℕ) → length v ≡ n → ((i : ℕ) → i < n → layer i ≡ true → (low ≤ get_or v i 0) × (get_or v i 0 ≤ high))
      → ((i : ℕ) → i < n → layer i ≡ false → get_or v i 0 ≡ 0) → Fits ranges v
  ranged-fits v e h z = fits-of ranges v (e ∙ sym ranges-length) (λ i l. let il : i < n = omega (arith, ranges-length) in rw (at i il) (go i il (layer i) refl))
    where
      go : (i : ℕ) → i < n → (b : Bool) → layer i ≡ b
          → ((cond {A = ℕ × ℕ} b (low, suc high - low) (0, 1)).0 ≤ get_or v i 0) × (get_or v i 0 < (cond {A = ℕ × ℕ} b (low, suc high - low) (0, 1)).0 + (cond {A = ℕ × ℕ} b (low, suc high - low) (0, 1)).1)
      go i il true x = let w = h i il x in (w.0, omega (arith, w.0, w.1))
      go i il false x = omega (arith, z i il x)

-- ---- the test of a layer, job by job

module _ (jobs : List Job) (layer above : Set) (quanta : List ℕ) where
  pub serves-at : serves jobs layer above quanta ≡ true → (k : ℕ) → k < length jobs → layer k ≡ true → 0 < bound jobs quanta layer above k
  unfolding serves_by
  serves-at e k l h = ltb-true 0 (bound jobs quanta layer above k) (sym (ap (λ b. not b || ltb 0 (bound jobs quanta layer above k)) h) ∙ every-at _ (length jobs) e k l)

  pub serves-of : ((k : ℕ) → k < length jobs → layer k ≡ true → 0 < bound jobs quanta layer above k) → serves jobs layer above quanta ≡ true
  unfolding serves_by
  serves-of h = every_of _ (length jobs) (λ k l. go k (layer k) (λ e. lt-ltb 0 (bound jobs quanta layer above k) (h k l e)))
    where
      go : (k : ℕ) (b : Bool) → (b ≡ true → ltb 0 (bound jobs quanta layer above k) ≡ true) → (not b || ltb 0 (bound jobs quanta layer above k)) ≡ true
      go k true f = f refl
      go k false f = refl

-- ---- raising

module _ (jobs : List Job) (costs : Costs jobs) (low high : ℕ) (lp : 0 < low) (layer above : Set) where
  -- The job k is not served with a quantum beside others, none of which is above that of a list that serves: that list has a greater
  -- quantum there.
  exceeds : (q : List ℕ) (k : ℕ) → k < length jobs → layer k ≡ true → (0 < bound jobs q layer above k → ⊥)
      → (w : List ℕ) → Fits (quantum_ranges low high layer (length jobs)) w → serves jobs layer above w ≡ true
      → ((i : ℕ) → i < length jobs → layer i ≡ true → (i ≡ k → ⊥) → get_or q i 0 ≤ get_or w i 0) → get_or q k 0 < get_or w k 0
  exceeds q k l e un w f served others = elim (dec_le (get_or w k 0) (get_or q k 0)) [
    | no g ↦ omega arith
    | yes g ↦ absurd (un (easier jobs k w q layer layer above above (costs k l)
        (lighter-quanta (length jobs) k w q layer layer (omega (arith, (in-range low high layer (length jobs) w f k l e).0)) g
        (others-mono (length jobs) k w q layer layer (λ i il x. x) others))
        (λ i il x. x) (λ i il x. x) (serves-at jobs layer above w served k l e)))
  ]

  pub raise : (q : List ℕ) → Low jobs low high layer above q → (k : ℕ) → k < length jobs → k < length q → layer k ≡ true
      → (0 < bound jobs q layer above k → ⊥) → Low jobs low high layer above (set q k (suc (get_or q k 0)))
  raise q least k l kq e un w f served i = elim (ℕ_discrete i k) [
    | yes g ↦ rw (g, get_or-set_same q k (suc (get_or q k 0)) 0 kq) (exceeds q k l e un w f served (λ j jl x d. least w f served j))
    | no g ↦ rw (get_or-set_other q k i (suc (get_or q k 0)) 0 g) (least w f served i)
  ]

  -- All are served: the list is the smallest.
  pub settled : (q : List ℕ) → Low jobs low high layer above q → Fits (quantum_ranges low high layer (length jobs)) q
      → ((k : ℕ) → k < length jobs → layer k ≡ true → 0 < bound jobs q layer above k)
      → smallest (quantum_ranges low high layer (length jobs)) (serves jobs layer above) ≡ some q
  settled q least f h = smallest-least (quantum_ranges low high layer (length jobs)) (serves jobs layer above) q f (serves-of jobs layer above q h) least

  -- A job is not served with the highest quantum beside others that are not above those of a list that serves: there is no list.
  pub hopeless : (q : List ℕ) (k : ℕ) → k < length jobs → layer k ≡ true → (0 < bound jobs q layer above k → ⊥) → high ≤ get_or q k 0
      → ((w : List ℕ) → Fits (quantum_ranges low high layer (length jobs)) w → serves jobs layer above w ≡ true
      → (i : ℕ) → i < length jobs → layer i ≡ true → (i ≡ k → ⊥) → get_or q i 0 ≤ get_or w i 0)
      → Hopeless jobs low high layer above
  hopeless q k l e un h others =
      smallest-none (quantum_ranges low high layer (length jobs)) (serves jobs layer above)
      (λ w f served. omega (arith, exceeds q k l e un w f served (others w f served), (in-range low high layer (length jobs) w f k l e).1))
