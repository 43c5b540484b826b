-- When the first bound is known to be the bound: the job has no neighbours, or it is unassignable and the others of these jobs are above it
-- or beside it. Assumes nothing.
use mathlib.Core.Path.{◌≡◌, refl, sym, ◌∙◌, ap, ap₂, fun_ext}
use mathlib.Core.Bool.{Bool, true, false, not, ◌&&◌, ◌||◌, or-true, false≢true}
use mathlib.Core.Logic.{◌⊎◌, inl, inr}
use Prim.Native.Nat.{ℕ, ◌^◌, ◌<◌}
use native.Mathlib.Decide.{ℕ_discrete}
use native.Mathlib.Omega.{arith}
use lib.Dec.{eqb}
use lib.Pow.{pow-lt}
use borrow.Author.Tests.{eq-eqb, ne_eqb}
use Rattle.sets.specs.Places.{every}
use Rattle.sets.specs.Sets.{Set, has, single, remove, Sub, Alone, join, within}
use Rattle.sets.proofs.Places.{every-at, every_of, every-stop}
use Rattle.sets.proofs.Members.{has-none, single-is, has-single, has-remove, has_join, has_some, eqb_swap}
use Rattle.sets.proofs.Parts.{within_has, has_within, rest_lt}
use Rattle.records.specs.Limits.{most_jobs}
use Rattle.response.specs.Demand.{neighbours, with_neighbours, only}
use Rattle.search.specs.Search.{first_decides}

-- Every place fails a test.
none_of : (s : Set) (n : ℕ) → every (λ i. not (s i)) n ≡ true → (i : ℕ) → i < n → s i ≡ true → ⊥
none_of s n e i l x = false≢true (sym (ap not x) ∙ every-at (λ i. not (s i)) n e i l)

-- A job without neighbours is alone.
lone : (n : ℕ) (s : Set) (k : ℕ) → every (λ i. not (neighbours s k i)) n ≡ true → Alone n s k
lone n s k e i l x = elim (ℕ_discrete i k) [
  | yes z ↦ z
  | no z ↦ absurd (none_of (neighbours s k) n e i l (ap₂ (λ (a b : Bool). a && not b) x (ne_eqb i k z)))
]

-- A job without neighbours needs no second bound.
pub only-decides : (n unassignable : ℕ) (a : Set) (k : ℕ) → first_decides n unassignable (only k) a k ≡ true
unfolding first_decides
only-decides n unassignable a k =
    ap (λ (b : Bool). b || (has unassignable k && every (λ i. not (has (remove unassignable k) i) || with_neighbours (only k) a k i) n))
    (every_of _ n (λ i l. neither (eqb i k)))
  where
    neither : (b : Bool) → not (b && not b) ≡ true
    neither true = refl
    neither false = refl

-- The job k is one of the unassignable jobs, and the others of them are above it or its neighbours.
pub record Covered (n unassignable : ℕ) (s a : Set) (k : ℕ) : Type 0 where
  pub one : has unassignable k ≡ true
  pub others : Sub n (has (remove unassignable k)) (with_neighbours s a k)

pub decided : (n unassignable : ℕ) (s a : Set) (k : ℕ) → first_decides n unassignable s a k ≡ true → Alone n s k ⊎ Covered n unassignable s a k
unfolding first_decides
decided n unassignable s a k e = go (every (λ i. not (neighbours s k i)) n) refl e
  where
    covers : (b : Bool) → has unassignable k ≡ b → (b && every (λ i. not (has (remove unassignable k) i) || with_neighbours s a k i) n) ≡ true → Covered n unassignable s a k
    covers true x e = record { one = x; others = λ i l y. sym (ap (λ (b : Bool). not b || with_neighbours s a k i) y) ∙ every-at _ n e i l }
    covers false x e = absurd (false≢true e)

    go : (b : Bool) → every (λ i. not (neighbours s k i)) n ≡ b
        → (b || (has unassignable k && every (λ i. not (has (remove unassignable k) i) || with_neighbours s a k i) n)) ≡ true → Alone n s k ⊎ Covered n unassignable s a k
    go true x e = inl (lone n s k x)
    go false x e = inr (covers (has unassignable k) refl e)

-- ---- as the code tests it, on the numbers of the sets

within-every : (p r : ℕ) → p < 2 ^ most_jobs → within p r ≡ every (λ i. not (has p i) || has r i) most_jobs
within-every p r h = go (within p r) refl
  where
    each : (b c : Bool) → (b ≡ true → c ≡ true) → (not b || c) ≡ true
    each true c f = f refl
    each false c f = refl

    inside : (b c : Bool) → (not b || c) ≡ true → b ≡ true → c ≡ true
    inside true c e f = e
    inside false c e f = absurd (false≢true f)

    back : (b : Bool) → every (λ i. not (has p i) || has r i) most_jobs ≡ b → within p r ≡ false → b ≡ false
    back true e f = absurd (false≢true (sym f ∙ has_within most_jobs p r h (λ i il x. inside (has p i) (has r i) (every-at _ most_jobs e i il) x)))
    back false e f = refl

    go : (b : Bool) → within p r ≡ b → b ≡ every (λ i. not (has p i) || has r i) most_jobs
    go true e = sym (every_of _ most_jobs (λ i il. each (has p i) (has r i) (λ x. within_has p r e i x)))
    go false e = sym (back _ refl e)

module _ (layer above k : ℕ) (l : k < most_jobs) where
  pub neighbours-set : has (remove layer k) ≡ neighbours (has layer) k
  neighbours-set = fun_ext (λ i. has-remove layer k i l ∙ ap (λ (b : Bool). has layer i && not b) (eqb_swap k i))

  pub with-set : has (join above (remove layer k)) ≡ with_neighbours (has layer) (has above) k
  with-set = fun_ext (λ i. has_join i above (remove layer k) ∙ ap (λ (s : Set). has above i || s i) neighbours-set)

  -- No neighbours, and some.
  none_left : remove layer k ≡ 0 → every (λ i. not (neighbours (has layer) k i)) most_jobs ≡ true
  none_left e = every_of _ most_jobs (λ i il. ap not (sym (ap (λ (s : Set). s i) neighbours-set) ∙ ap (λ (x : ℕ). has x i) e ∙ has-none i))

  some_left : layer < 2 ^ most_jobs → (remove layer k ≡ 0 → ⊥) → every (λ i. not (neighbours (has layer) k i)) most_jobs ≡ false
  unfolding remove
  some_left h e =
      let w = has_some most_jobs (remove layer k) (rest_lt most_jobs layer (single k) h) (omega (arith, e)) in
      every-stop _ most_jobs w.0 w.1 (ap not (sym (ap (λ (s : Set). s w.0) neighbours-set) ∙ w.2))

  module _ (unassignable : ℕ) where
    abbrev cover : Bool
    cover = every (λ i. not (has (remove unassignable k) i) || with_neighbours (has layer) (has above) k i) most_jobs

    pub decides-alone : remove layer k ≡ 0 → first_decides most_jobs unassignable (has layer) (has above) k ≡ true
    unfolding first_decides
    decides-alone e = ap (λ (b : Bool). b || (has unassignable k && cover)) (none_left e)

    pub decides-by : layer < 2 ^ most_jobs → (remove layer k ≡ 0 → ⊥) → (b : Bool) → b ≡ has unassignable k → first_decides most_jobs unassignable (has layer) (has above) k ≡ (b && cover)
    unfolding first_decides
    decides-by h e b x = ap₂ (λ (a b : Bool). a || (b && cover)) (some_left h e) (sym x)

    -- The others of the unassignable jobs lie within the set above and the neighbours.
    pub cover-within : unassignable < 2 ^ most_jobs → within (remove unassignable k) (join above (remove layer k)) ≡ cover
    unfolding remove
    cover-within h =
        within-every (remove unassignable k) (join above (remove layer k)) (rest_lt most_jobs unassignable (single k) h)
        ∙ ap (λ (s : Set). every (λ i. not (has (remove unassignable k) i) || s i) most_jobs) with-set

-- A job alone has none to remove but itself.
pub single-removed : (k : ℕ) → k < most_jobs → remove (single k) k ≡ 0
unfolding remove
single-removed k l = elim (ℕ_discrete (remove (single k) k) 0) [
  | yes e ↦ e
  | no e ↦
      let s = single k in
      let w = has_some most_jobs (remove s k) (rest_lt most_jobs s s (rw (single-is k l) (pow-lt l))) (omega (arith, e)) in
      absurd (both (eqb k w.0) (sym (has-remove s k w.0 l ∙ ap (λ (b : Bool). b && not (eqb k w.0)) (has-single k w.0 l)) ∙ w.2))
]
  where
    both : (b : Bool) → (b && not b) ≡ true → ⊥
    both true e = false≢true e
    both false e = false≢true e

pub only_set : (k : ℕ) → k < most_jobs → has (single k) ≡ only k
only_set k l = fun_ext (λ i. has-single k i l ∙ eqb_swap k i)

-- Where a job alone is taken for unassignable, its first bound decides.
pub decides-single : (n : ℕ) (s a : Set) (k : ℕ) → k < most_jobs → first_decides n (single k) s a k ≡ true
unfolding first_decides
decides-single n s a k l =
    let own : has (single k) k ≡ true = has-single k k l ∙ eq-eqb k k refl in
    let rest : every (λ i. not (has (remove (single k) k) i) || with_neighbours s a k i) n ≡ true =
    every_of _ n (λ i il. ap (λ (b : Bool). not b || with_neighbours s a k i) (ap (λ (x : ℕ). has x i) (single-removed k l) ∙ has-none i)) in
    ap₂ (λ (x y : Bool). every (λ i. not (neighbours s k i)) n || (x && y)) own rest ∙ or-true (every (λ i. not (neighbours s k i)) n)
