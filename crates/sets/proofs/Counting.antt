-- How many sets lie between two sets, at any width. Assumes nothing.
use mathlib.Core.Path.{◌≡◌, refl, sym, ◌∙◌, ap, ap₂}
use mathlib.Core.Bool.{Bool, true, false, cond, not, ◌&&◌, ◌||◌, and-eq-true_iff, false≢true}
use mathlib.Core.Logic.{◌≢◌}
use Prim.Native.Nat.{ℕ, zero, suc, ◌+◌, ◌*◌, ◌/◌, ◌^◌, ◌≤◌, ◌<◌}
use native.Mathlib.Nat.{pow-succ'}
use native.Mathlib.Decide.{ℕ_discrete}
use native.Mathlib.Omega.{arith}
use lib.Count.{ones}
use lib.Dec.{eqb}
use borrow.Author.Tests.{eq-eqb, ne_eqb, eqb-true}
use Rattle.sets.specs.Places.{sum}
use Rattle.sets.specs.Sets.{has, rest, within, size}
use Rattle.sets.proofs.Places.{sum_same, sum-zero, sum-add, sum-double}
use Rattle.sets.proofs.Members.{has-suc, has_rest, first-has, first-no, rest-half, has-none}
use Rattle.sets.proofs.Parts.{within_has, has_within, within-le, size-empty, size_low, size-pos, size-rest, rest_lt}

-- 1 where the test passes.
abbrev pub one : Bool → ℕ
one b = cond b 1 0

-- ---- one place, and one place less

pub sum_one : (z n : ℕ) → z < n → sum (λ x. one (eqb x z)) n ≡ 1
unfolding sum
sum_one z zero l = absurd (omega arith)
sum_one z (suc n) l = elim (ℕ_discrete n z) [
  | yes e ↦
      let a : sum (λ x. one (eqb x z)) n ≡ 0 = sum-zero (λ x. one (eqb x z)) n (λ i il. ap one (ne_eqb i z (λ g. omega arith))) in
      omega (arith, a, ap one (eq-eqb n z e))
  | no e ↦ omega (arith, sum_one z n (omega arith), ap one (ne_eqb n z e))
]

pub sum-out : (test : ℕ → Bool) (x n : ℕ) → x < n → test x ≡ true → sum (λ i. one (test i)) n ≡ suc (sum (λ i. one (test i && not (eqb i x))) n)
sum-out test x n l e =
    sum_same _ _ n (λ i il. split (test i) (eqb i x) (λ b. ap test (eqb-true i x b) ∙ e))
    ∙ sum-add (λ i. one (test i && not (eqb i x))) (λ i. one (eqb i x)) n
    ∙ omega (arith, sum_one x n l)
  where
    split : (a b : Bool) → (b ≡ true → a ≡ true) → one a ≡ one (a && not b) + one b
    split true true h = refl
    split true false h = refl
    split false true h = absurd (false≢true (h refl))
    split false false h = refl

-- ---- the number of sets between two

abbrev pub between : ℕ → ℕ → ℕ → Bool
between s r x = within s x && within x r

-- Whether a set lies within another, by the first place and the others.
within_step : (n s r : ℕ) → s < 2 ^ suc n → within s r ≡ ((not (has s 0) || has r 0) && within (s / 2) (r / 2))
within_step n s r b = same (within s r) ((not (has s 0) || has r 0) && within (s / 2) (r / 2)) there back
  where
    same : (a c : Bool) → (a ≡ true → c ≡ true) → (c ≡ true → a ≡ true) → a ≡ c
    same true c h g = sym (h refl)
    same false true h g = g refl
    same false false h g = refl

    implied : (a c : Bool) → (a ≡ true → c ≡ true) → (not a || c) ≡ true
    implied true c h = h refl
    implied false c h = refl

    implies : (a c : Bool) → (not a || c) ≡ true → a ≡ true → c ≡ true
    implies true c h e = h
    implies false c h e = absurd (false≢true e)

    there : within s r ≡ true → ((not (has s 0) || has r 0) && within (s / 2) (r / 2)) ≡ true
    there e =
        (and-eq-true_iff (not (has s 0) || has r 0) (within (s / 2) (r / 2))).1 (
          implied (has s 0) (has r 0) (within_has s r e 0),
          has_within n (s / 2) (r / 2) (omega arith) (λ i l x. sym (has-suc r i) ∙ within_has s r e (suc i) (has-suc s i ∙ x)),
        )

    back : ((not (has s 0) || has r 0) && within (s / 2) (r / 2)) ≡ true → within s r ≡ true
    back e = has_within (suc n) s r b at
      where
        at : (i : ℕ) → i < suc n → has s i ≡ true → has r i ≡ true
        at zero l x = implies (has s 0) (has r 0) ((and-eq-true_iff (not (has s 0) || has r 0) (within (s / 2) (r / 2))).0 e).0 x
        at (suc i) l x =
            has-suc r i
            ∙ within_has (s / 2) (r / 2) ((and-eq-true_iff (not (has s 0) || has r 0) (within (s / 2) (r / 2))).0 e).1 i (sym (has-suc s i) ∙ x)

between-even : (n s r y : ℕ) → s < 2 ^ suc n → y < 2 ^ n → one (between s r (2 * y)) ≡ cond (not (has s 0)) (one (between (s / 2) (r / 2) y)) 0
between-even n s r y b l =
    let e : 2 * y / 2 ≡ y = omega arith in
    ap one (ap₂ ◌&&◌ (within_step n s (2 * y) b) (within_step n (2 * y) r (omega arith)))
    ∙ rw (e, first-no (2 * y) (omega arith)) (go (has s 0) (within (s / 2) y) (within y (r / 2)))
  where
    go : (a c d : Bool) → one (((not a || false) && c) && d) ≡ cond (not a) (one (c && d)) 0
    go true c d = refl
    go false c d = refl

between-odd : (n s r y : ℕ) → s < 2 ^ suc n → y < 2 ^ n → one (between s r (suc (2 * y))) ≡ cond (has r 0) (one (between (s / 2) (r / 2) y)) 0
between-odd n s r y b l =
    let e : suc (2 * y) / 2 ≡ y = omega arith in
    ap one (ap₂ ◌&&◌ (within_step n s (suc (2 * y)) b) (within_step n (suc (2 * y)) r (omega arith)))
    ∙ rw (e, first-has (suc (2 * y)) (omega arith)) (go (has s 0) (has r 0) (within (s / 2) y) (within y (r / 2)))
  where
    go : (a f c d : Bool) → one (((not a || true) && c) && (f && d)) ≡ cond f (one (c && d)) 0
    go true true c d = refl
    go true false true d = refl
    go true false false d = refl
    go false true c d = refl
    go false false true d = refl
    go false false false d = refl

-- One place more: twice as many where it is free.
spread : (f : ℕ → ℕ) (m : ℕ) (a b : Bool) → (a ≡ true → b ≡ true) → sum (λ y. cond (not a) (f y) 0 + cond b (f y) 0) m ≡ cond (b && not a) 2 1 * sum f m
spread f m true true h = sum_same (λ y. 0 + f y) f m (λ i l. omega arith) ∙ omega arith
spread f m true false h = absurd (false≢true (h refl))
spread f m false true h = sum-add f f m ∙ omega arith
spread f m false false h = sum_same (λ y. f y + 0) f m (λ i l. omega arith) ∙ omega arith

power : (b : Bool) (c : ℕ) → 2 ^ (one b + c) ≡ cond b 2 1 * 2 ^ c
power true c = let e : 1 + c ≡ suc c = omega arith in rw e (pow-succ' 2 c)
power false c = let e : 0 + c ≡ c = omega arith in rw e (omega arith)

-- Two to the power of the number of members that the smaller set lacks.
pub count-between : (n s r : ℕ) → r < 2 ^ n → within s r ≡ true → sum (λ x. one (between s r x)) (2 ^ n) ≡ 2 ^ size (rest r s)
count-between zero s r b h =
    let e : r ≡ 0 = omega arith in
    let f : s ≡ 0 = omega (arith, within-le s r h) in
    rw (e, f) (unfold sum within rest size ones in refl)
count-between (suc n) s r b h =
    let c : s < 2 ^ suc n = omega (arith, within-le s r h) in
    let w = (and-eq-true_iff (not (has s 0) || has r 0) (within (s / 2) (r / 2))).0 (sym (within_step n s r c) ∙ h) in
    ap (sum (λ x. one (between s r x))) (pow-succ' 2 n)
    ∙ sum-double (λ x. one (between s r x)) (2 ^ n)
    ∙ sum_same _ _ (2 ^ n) (λ y l. ap₂ (λ (x y : ℕ). x + y) (between-even n s r y c l) (between-odd n s r y c l))
    ∙ spread (λ y. one (between (s / 2) (r / 2) y)) (2 ^ n) (has s 0) (has r 0) (within_has s r h 0)
    ∙ ap (λ (x : ℕ). cond (has r 0 && not (has s 0)) 2 1 * x) (count-between n (s / 2) (r / 2) (omega arith) w.1)
    ∙ sym (power (has r 0 && not (has s 0)) (size (rest (r / 2) (s / 2))))
    ∙ ap (λ (x : ℕ). 2 ^ x) (sym (size_low (rest r s) ∙ ap₂ (λ (x : Bool) (y : ℕ). one x + size y) (has_rest 0 r s) (rest-half r s)))

-- The empty set lies within every set.
pub none_within : (r : ℕ) → within 0 r ≡ true
none_within r = has_within 0 0 r (omega arith) (λ i l e. absurd (omega arith))

-- All subsets.
pub count-within : (n r : ℕ) → r < 2 ^ n → sum (λ x. one (within x r)) (2 ^ n) ≡ 2 ^ size r
count-within n r b =
    sum_same _ _ (2 ^ n) (λ x l. ap (λ (c : Bool). one (c && within x r)) (sym (none_within x)))
    ∙ count-between n 0 r b (none_within r)
    ∙ ap (λ (x : ℕ). 2 ^ x) (omega (arith, size-rest r 0 (none_within r), size-empty))

-- A set within another one is smaller.
pub size_less : (n s x : ℕ) → x < 2 ^ n → within s x ≡ true → x ≢ s → size s < size x
size_less n s x b h d = elim (ℕ_discrete (rest x s) 0) [
  | yes e ↦ absurd (d (omega (arith, within-le s x h, under e)))
  | no e ↦ omega (arith, size-rest x s h, size-pos n (rest x s) (rest_lt n x s b) (omega arith))
]
  where
    under : rest x s ≡ 0 → x ≤ s
    under e = within-le x s (has_within n x s b (λ i l y. go i y (has s i) refl))
      where
        go : (i : ℕ) → has x i ≡ true → (c : Bool) → has s i ≡ c → has s i ≡ true
        go i y true f = f
        go i y false f = absurd (false≢true (sym (has-none i) ∙ ap (λ (z : ℕ). has z i) (sym e) ∙ has_rest i x s ∙ ap₂ (λ (p q : Bool). p && not q) y f))
