-- What the search for quanta says: whether a set can be taken. Assumes nothing.
use Prim.Native.Nat.{ℕ, ◌^◌, ◌≤◌, ◌<◌, min, max}
use mathlib.Core.Path.{◌≡◌, sym, ap, ◌∙◌}
use mathlib.Core.Bool.{Bool, true, false, cond}
use mathlib.Core.Logic.{◌⊎◌, inl, inr, ⊎_elim}
use mathlib.Core.List.{List}
use mathlib.Core.Option.{Option, none, some}
use native.Mathlib.Omega.{arith}
use lib.ListN.{length, get_or}
use Rattle.sets.specs.Places.{list_of}
use Rattle.sets.specs.Sets.{Set, has, rest, Sub, but, Alone}
use Rattle.sets.proofs.Places.{list_at, list_length}
use Rattle.sets.proofs.Members.{has_rest, has_some}
use Rattle.records.specs.declared.job.Job.{Job}
use Rattle.response.specs.Demand.{bound}
use Rattle.response.proofs.Easier.{Lighter, easier, lighter-drop, lighter-alone, lighter-quanta, others-mono}
use Rattle.assignment.specs.Takeable.{Permitted, Served, TakeableBy, CanTake}
use Rattle.assignment.specs.Plan.{quantum_ranges, serves, quanta_for, quanta_by}
use Rattle.assignment.specs.Layers.{Fits}
use Rattle.assignment.proofs.Smallest.{smallest-some, smallest-all}
use Rattle.assignment.proofs.Serving.{Costs, in-range, ranged-fits, serves-at, serves-of}

-- s is the number of a set of jobs of r.
abbrev pub Of : ℕ → ℕ → ℕ → Type 0
Of n r s = (s < 2 ^ n) × Sub n (has s) (has r)

-- What the planner's proof uses of a rule on quanta and of the search for them.
pub record Finds (jobs : List Job) (low high : ℕ) (Permit : List ℕ → Set → Type 0) (find : ℕ → ℕ → Option (List ℕ)) : Type 0 where
  -- The rule still permits a layer's quanta when a job is dropped.
  pub drop : (q : List ℕ) (s s' : Set) → Sub (length jobs) s' s → Permit q s → Permit q s'
  -- What is found is permitted, in range, and serves; where nothing is found, the set cannot be taken.
  pub permits : (r s : ℕ) (q : List ℕ) → Of (length jobs) r s → find r s ≡ some q → Permit q (has s)
  pub range : (r s : ℕ) (q : List ℕ) → Of (length jobs) r s → find r s ≡ some q
      → (k : ℕ) → k < length jobs → has s k ≡ true → (low ≤ get_or q k 0) × (get_or q k 0 ≤ high)
  pub serves : (r s : ℕ) (q : List ℕ) → Of (length jobs) r s → find r s ≡ some q
      → (k : ℕ) → k < length jobs → has s k ≡ true → 0 < bound jobs q (has s) (has (rest r s)) k
  pub fails : (r s : ℕ) → Of (length jobs) r s → find r s ≡ none → TakeableBy jobs Permit (has r) (has s) → ⊥

permit-drop : (n low high : ℕ) (q : List ℕ) (s s' : Set) → Sub n s' s → Permitted n low high q s → Permitted n low high q s'
permit-drop n low high q s s' h p k l e = ⊎_elim (λ a. inl (λ i il x. a i il (h i il x))) inr (p k l (h k l e))

module _ (jobs : List Job) (costs : Costs jobs) where
  pub served-drop : (q : List ℕ) (s s' a a' : Set) (k : ℕ) → k < length jobs → Sub (length jobs) s' s → Sub (length jobs) a' a → Served jobs q s a k → Served jobs q s' a' k
  served-drop q s s' a a' k l hs ha b = easier jobs k q q s s' a a' (costs k l) (lighter-drop (length jobs) k q s s' hs) hs ha b

  -- What is found can be taken.
  pub can-take : (low high : ℕ) (Permit : List ℕ → Set → Type 0) (find : ℕ → ℕ → Option (List ℕ)) → Finds jobs low high Permit find
      → (r s : ℕ) (q : List ℕ) → 0 < s → Of (length jobs) r s → find r s ≡ some q → TakeableBy jobs Permit (has r) (has s)
  can-take low high Permit find F r s q p o e = record {
    some = has_some (length jobs) s o.0 p;
    sub = o.1;
    quanta = q;
    permit = F.permits r s q o e;
    served = λ k l x. served-drop q (has s) (has s) (has (rest r s)) (but (has r) (has s)) k l (λ i il y. y)
        (λ i il y. has_rest i r s ∙ y) (F.serves r s q o e k l x);
  }

  -- ---- a quantum per job, each in range

  -- Quanta that serve, put in range for the layer's jobs and 0 for the others: they serve still.
  module _ (low high : ℕ) (lp : 0 < low) (lh : low ≤ high) (r s : ℕ) (t : CanTake jobs low high (has r) (has s)) where
    abbrev q : List ℕ
    q = t.quanta

    clamped : ℕ → ℕ
    clamped i = cond (has s i) (max low (min (get_or q i 0) high)) 0

    q' : List ℕ
    q' = list_of clamped (length jobs)

    value : (i : ℕ) → i < length jobs → get_or q' i 0 ≡ clamped i
    unfolding q'
    value i l = list_at clamped (length jobs) i 0 l

    value_in : (i : ℕ) → i < length jobs → has s i ≡ true → get_or q' i 0 ≡ max low (min (get_or q i 0) high)
    unfolding clamped
    value_in i l e = value i l ∙ ap (λ (b : Bool). cond b (max low (min (get_or q i 0) high)) 0) e

    value_out : (i : ℕ) → i < length jobs → has s i ≡ false → get_or q' i 0 ≡ 0
    unfolding clamped
    value_out i l e = value i l ∙ ap (λ (b : Bool). cond b (max low (min (get_or q i 0) high)) 0) e

    fits : Fits (quantum_ranges low high (has s) (length jobs)) q'
    unfolding q'
    fits = ranged-fits low high (has s) (length jobs) q' (list_length clamped (length jobs)) (λ i l e. let v = value_in i l e in omega (arith, v)) value_out

    -- A quantum in range stays what it is.
    kept : (i : ℕ) → i < length jobs → has s i ≡ true → (low ≤ get_or q i 0) × (get_or q i 0 ≤ high) → get_or q' i 0 ≡ get_or q i 0
    kept i l e w = value_in i l e ∙ omega (arith, w.0, w.1)

    light : (k : ℕ) → k < length jobs → has s k ≡ true → Alone (length jobs) (has s) k ⊎ ((low ≤ get_or q k 0) × (get_or q k 0 ≤ high))
        → Lighter (length jobs) k q (has s) q' (has s)
    light k l e (inl a) = lighter-alone (length jobs) k q q' (has s) (has s) a
    light k l e (inr w) =
        lighter-quanta (length jobs) k q q' (has s) (has s) (omega (arith, w.0)) (omega (arith, kept k l e w))
        (others-mono (length jobs) k q q' (has s) (has s) (λ i il x. x) (λ i il x d.
        ⊎_elim (λ a. absurd (d (sym (a k l e)))) (λ v. omega (arith, kept i il x v)) (t.permit i il x)))

    cannot-take : quanta_for jobs low high r s ≡ none → ⊥
    unfolding quanta_by
    cannot-take e =
        smallest-all (quantum_ranges low high (has s) (length jobs)) (serves jobs (has s) (has (rest r s))) e q' fits
        (serves-of jobs (has s) (has (rest r s)) q' (λ k l x.
        easier jobs k q q' (has s) (has s) (but (has r) (has s)) (has (rest r s)) (costs k l) (light k l x (t.permit k l x)) (λ i il y. y)
        (λ i il y. sym (has_rest i r s) ∙ y) (t.served k l x)))

  pub per-job : (low high : ℕ) → 0 < low → low ≤ high → Finds jobs low high (Permitted (length jobs) low high) (quanta_for jobs low high)
  unfolding quanta_by
  per-job low high lp lh = record {
    drop = permit-drop (length jobs) low high;
    permits = λ r s q o e k l x. inr (found r s q e k l x);
    range = λ r s q o e. found r s q e;
    serves = λ r s q o e. serves-at jobs (has s) (has (rest r s)) q
        (smallest-some (quantum_ranges low high (has s) (length jobs)) (serves jobs (has s) (has (rest r s))) q e).1;
    fails = λ r s o e t. cannot-take low high lp lh r s t e;
  }
    where
      found : (r s : ℕ) (q : List ℕ) → quanta_for jobs low high r s ≡ some q → (k : ℕ) → k < length jobs → has s k ≡ true → (low ≤ get_or q k 0) × (get_or q k 0 ≤ high)
      found r s q e k l x =
          let g = smallest-some (quantum_ranges low high (has s) (length jobs)) (serves jobs (has s) (has (rest r s))) q e in
          in-range low high (has s) (length jobs) q g.0 k l x
