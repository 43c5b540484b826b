-- The unassignable jobs: what remains when no more jobs are dropped, and the loops that drop them. Assumes nothing.
use mathlib.Core.Path.{◌≡◌, refl, sym, ◌∙◌, ap, ap₂}
use mathlib.Core.Bool.{Bool, true, false, cond, ◌&&◌, ◌||◌, false≢true}
use Prim.Native.Nat.{ℕ, zero, suc, ◌^◌, ◌≤◌, ◌<◌}
use native.Mathlib.Nat.{le_refl}
use native.Mathlib.Decide.{ℕ_discrete}
use native.Mathlib.Omega.{arith}
use lib.Dec.{eqb, ltb}
use borrow.Author.Tests.{eq-eqb, ne_eqb, eqb-true}
use Rattle.sets.specs.Sets.{places, has, single, remove, size}
use Rattle.sets.proofs.Members.{has-none}
use Rattle.sets.proofs.Parts.{rest_lt}
use Rattle.sets.proofs.LowestMember.{size-remove}
use Rattle.records.specs.Limits.{most_jobs}
use Rattle.records.specs.Jobs.{job_at}
use Rattle.search.specs.declared.workload.Workload.{Workload}
use Rattle.search.specs.Search.{bound_by, no_quanta, drops, drop_from, drop_again}

-- ---- what remains

module _ (d : ℕ → ℕ → Bool) (member : (s k : ℕ) → d s k ≡ true → has s k ≡ true) where
  drop-size : (n s : ℕ) → n ≤ places → size (drop_from d n s) ≤ size s
  unfolding drop_from
  drop-size zero s l = le_refl (size s)
  drop-size (suc n) s l = go (d s n) refl (λ r. drop-size n r (omega arith))
    where
      go : (b : Bool) → d s n ≡ b → ((r : ℕ) → size (drop_from d n r) ≤ size r) → size (drop_from d n (cond b (remove s n) s)) ≤ size s
      go true e ih = omega (arith, ih (remove s n), size-remove s n l (member s n e))
      go false e ih = ih s

  -- A set from which nothing is dropped.
  drop-none : (n s : ℕ) → n ≤ places → drop_from d n s ≡ s → (k : ℕ) → k < n → d s k ≡ false
  unfolding drop_from
  drop-none zero s l e k h = absurd (omega arith)
  drop-none (suc n) s l e k h = go (d s n) refl e (λ g. drop-none n s (omega arith) g k)
    where
      go : (b : Bool) → d s n ≡ b → drop_from d n (cond b (remove s n) s) ≡ s → (drop_from d n s ≡ s → k < n → d s k ≡ false) → d s k ≡ false
      go true f g ih = absurd (omega (arith, ap size g, drop-size n (remove s n) (omega arith), size-remove s n l (member s n f)))
      go false f g ih = elim (ℕ_discrete k n) [ yes z ↦ ap (d s) z ∙ f | no z ↦ ih g (omega arith) ]

  drop-lt : (n s : ℕ) → s < 2 ^ places → drop_from d n s < 2 ^ places
  unfolding drop_from remove
  drop-lt zero s h = h
  drop-lt (suc n) s h = go (d s n) (drop-lt n)
    where
      go : (b : Bool) → ((r : ℕ) → r < 2 ^ places → drop_from d n r < 2 ^ places) → drop_from d n (cond b (remove s n) s) < 2 ^ places
      go true ih = ih (remove s n) (rest_lt places s (single n) h)
      go false ih = ih s h

  pub again-lt : (n s : ℕ) → s < 2 ^ places → drop_again d n s < 2 ^ places
  unfolding drop_again
  again-lt zero s h = omega arith
  again-lt (suc n) s h = go (eqb (drop_from d most_jobs s) s) (again-lt n (drop_from d most_jobs s) (drop-lt most_jobs s h))
    where
      go : (b : Bool) → drop_again d n (drop_from d most_jobs s) < 2 ^ places → cond b s (drop_again d n (drop_from d most_jobs s)) < 2 ^ places
      go true ih = h
      go false ih = ih

  pub none_dropped : (n s k : ℕ) → k < most_jobs → d (drop_again d n s) k ≡ false
  unfolding drop_again
  none_dropped zero s k l = none (d 0 k) refl
    where
      none : (b : Bool) → d 0 k ≡ b → b ≡ false
      none true e = absurd (false≢true (sym (has-none k) ∙ member 0 k e))
      none false e = refl
  none_dropped (suc n) s k l = go (eqb (drop_from d most_jobs s) s) refl (none_dropped n (drop_from d most_jobs s) k l)
    where
      go : (b : Bool) → eqb (drop_from d most_jobs s) s ≡ b → d (drop_again d n (drop_from d most_jobs s)) k ≡ false
          → d (cond b s (drop_again d n (drop_from d most_jobs s))) k ≡ false
      go true e ih = drop-none most_jobs s (le_refl most_jobs) (eqb-true (drop_from d most_jobs s) s e) k l
      go false e ih = ih

-- ---- the loops

module _ (w : Workload) (set k : ℕ) where
  abbrev served : Bool
  served = ltb 0 (bound_by w no_quanta (has (single k)) (has (remove set k)) k)

  pub drops-out : has set k ≡ false → drops w set k ≡ false
  unfolding drops
  drops-out e = ap (λ (b : Bool). b && (eqb (job_at w.jobs k).cost 0 || served)) e

  pub drops-idle : has set k ≡ true → (job_at w.jobs k).cost ≡ 0 → drops w set k ≡ true
  unfolding drops
  drops-idle e z = ap₂ (λ (b c : Bool). b && (c || served)) e (eq-eqb (job_at w.jobs k).cost 0 z)

  pub drops-by : has set k ≡ true → ((job_at w.jobs k).cost ≡ 0 → ⊥) → drops w set k ≡ served
  unfolding drops
  drops-by e z = ap₂ (λ (b c : Bool). b && (c || served)) e (ne_eqb (job_at w.jobs k).cost 0 z)

module _ (d : ℕ → ℕ → Bool) (set : ℕ) where
  pub drop-end : drop_from d 0 set ≡ set
  unfolding drop_from
  drop-end = refl

  pub drop-one : (n : ℕ) → d set n ≡ true → drop_from d (suc n) set ≡ drop_from d n (remove set n)
  unfolding drop_from
  drop-one n e = ap (λ (b : Bool). drop_from d n (cond b (remove set n) set)) e

  pub drop-keep : (n : ℕ) → d set n ≡ false → drop_from d (suc n) set ≡ drop_from d n set
  unfolding drop_from
  drop-keep n e = ap (λ (b : Bool). drop_from d n (cond b (remove set n) set)) e

  pub again-out : drop_again d 0 set ≡ 0
  unfolding drop_again
  again-out = refl

  pub again-ends : (n : ℕ) → drop_from d most_jobs set ≡ set → drop_again d (suc n) set ≡ set
  unfolding drop_again
  again-ends n e = ap (λ (b : Bool). cond b set (drop_again d n (drop_from d most_jobs set))) (eq-eqb (drop_from d most_jobs set) set e)

  pub again-on : (n : ℕ) → (drop_from d most_jobs set ≡ set → ⊥) → drop_again d (suc n) set ≡ drop_again d n (drop_from d most_jobs set)
  unfolding drop_again
  again-on n e = ap (λ (b : Bool). cond b set (drop_again d n (drop_from d most_jobs set))) (ne_eqb (drop_from d most_jobs set) set e)
