-- Laws of membership: each follows from the lowest digit of the set's number and from its half. They hold at any width. Assumes nothing.
use mathlib.Core.Path.{◌≡◌, refl, sym, ◌∙◌, ap, ap₂}
use mathlib.Core.Bool.{Bool, true, false, cond, not, ◌&&◌, ◌||◌, false≢true, or-true, or-false}
use mathlib.Core.Logic.{◌⊎◌, inl, inr}
use Prim.Native.Nat.{ℕ, zero, suc, ◌+◌, ◌*◌, ◌-◌, ◌/◌, ◌%◌, ◌^◌, ◌≤◌, ◌<◌, min, max}
use native.Mathlib.Nat.{div-one, div-eq_of_lt, div-div-eq-div-mul, pow-succ', pow-suc, le_antisymm, mod-eq_of_lt, mul-mod_right, one-mul}
use native.Mathlib.Decide.{dec_le, ℕ_discrete}
use native.Mathlib.Omega.{arith}
use lib.Arith.{lt-one}
use lib.Bits.{bit_and, bit_or, and_step, or_step, and_shr, or_shr, and_le_l}
use lib.Dec.{eqb, ltb, eqb-zero-suc, eqb-suc-zero, eqb-suc-suc}
use lib.Pow.{pow-add, pow_pos, pow_mono, pow-lt}
use borrow.Author.Tests.{eqb-true, eq-eqb, ne_eqb, not-true, not-false, lt-ltb, le-ltb}
use Rattle.sets.specs.Sets.{Set, places, has, single, insert, join, rest, remove, Sub, Collects}
use Rattle.sets.proofs.Places.{fails-at}

-- ---- the lowest digit and the half

pub has-zero : (s : ℕ) → has s 0 ≡ eqb (s % 2) 1
unfolding has
has-zero s = rw div-one

pub has-suc : (s i : ℕ) → has s (suc i) ≡ has (s / 2) i
unfolding has
has-suc s i = rw (pow-succ', ← div-div-eq-div-mul)

has_first : (s : ℕ) → has s 0 ≡ true → s % 2 ≡ 1
has_first s h = eqb-true (s % 2) 1 (sym (has-zero s) ∙ h)

pub first-has : (s : ℕ) → s % 2 ≡ 1 → has s 0 ≡ true
first-has s h = has-zero s ∙ eq-eqb (s % 2) 1 h

pub first-no : (s : ℕ) → s % 2 ≡ 0 → has s 0 ≡ false
first-no s h = has-zero s ∙ ne_eqb (s % 2) 1 (λ e. omega arith)

-- What holds of each pair of digits.
digits : (P : ℕ → ℕ → Type 0) → P 0 0 → P 0 1 → P 1 0 → P 1 1 → (x y : ℕ) → x < 2 → y < 2 → P x y
digits P a b c d zero zero hx hy = a
digits P a b c d zero (suc zero) hx hy = b
digits P a b c d zero (suc (suc y)) hx hy = absurd (omega arith)
digits P a b c d (suc zero) zero hx hy = c
digits P a b c d (suc zero) (suc zero) hx hy = d
digits P a b c d (suc zero) (suc (suc y)) hx hy = absurd (omega arith)
digits P a b c d (suc (suc x)) y hx hy = absurd (omega arith)

digit : (n : ℕ) → n % 2 < 2
digit n = omega arith

-- ---- operations that work digit by digit, by f at each

module _ (op : ℕ → ℕ → ℕ) (g : ℕ → ℕ → ℕ) (f : Bool → Bool → Bool)
    (half : (a b : ℕ) → op a b / 2 ≡ op (a / 2) (b / 2)) (odd : (a b : ℕ) → op a b % 2 ≡ g (a % 2) (b % 2))
    (low : (x y : ℕ) → x < 2 → y < 2 → eqb (g x y) 1 ≡ f (eqb x 1) (eqb y 1))
  where
    has-op : (i a b : ℕ) → has (op a b) i ≡ f (has a i) (has b i)
    has-op zero a b =
        has-zero (op a b) ∙ ap (λ (x : ℕ). eqb x 1) (odd a b) ∙ low (a % 2) (b % 2) (digit a) (digit b) ∙ ap₂ f (sym (has-zero a)) (sym (has-zero b))
    has-op (suc i) a b =
        has-suc (op a b) i ∙ ap (λ (x : ℕ). has x i) (half a b) ∙ has-op i (a / 2) (b / 2) ∙ ap₂ f (sym (has-suc a i)) (sym (has-suc b i))

pub and-half : (a b : ℕ) → bit_and a b / 2 ≡ bit_and (a / 2) (b / 2)
and-half a b = and_shr a b 1

pub and-odd : (a b : ℕ) → bit_and a b % 2 ≡ min (a % 2) (b % 2)
and-odd a b = omega (arith, and_step a b)

pub has-and : (i a b : ℕ) → has (bit_and a b) i ≡ (has a i && has b i)
has-and = has-op bit_and min ◌&&◌ and-half and-odd (digits (λ x y. eqb (min x y) 1 ≡ (eqb x 1 && eqb y 1)) refl refl refl refl)

or-half : (a b : ℕ) → bit_or a b / 2 ≡ bit_or (a / 2) (b / 2)
or-half a b = or_shr a b 1

or-odd : (a b : ℕ) → bit_or a b % 2 ≡ max (a % 2) (b % 2)
or-odd a b = omega (arith, or_step a b)

has-or : (i a b : ℕ) → has (bit_or a b) i ≡ (has a i || has b i)
has-or = has-op bit_or max ◌||◌ or-half or-odd (digits (λ x y. eqb (max x y) 1 ≡ (eqb x 1 || eqb y 1)) refl refl refl refl)

rest-step : (a b : ℕ) → rest a b ≡ rest (a / 2) (b / 2) * 2 + (a % 2 - min (a % 2) (b % 2))
unfolding rest
rest-step a b = omega (arith, and_step a b, and_le_l (a / 2) (b / 2))

pub rest-half : (a b : ℕ) → rest a b / 2 ≡ rest (a / 2) (b / 2)
rest-half a b = omega (arith, rest-step a b)

pub rest-odd : (a b : ℕ) → rest a b % 2 ≡ a % 2 - min (a % 2) (b % 2)
rest-odd a b = omega (arith, rest-step a b)

pub has_rest : (i a b : ℕ) → has (rest a b) i ≡ (has a i && not (has b i))
has_rest =
    has-op rest (λ x y. x - min x y) (λ x y. x && not y) rest-half rest-odd
    (digits (λ x y. eqb (x - min x y) 1 ≡ (eqb x 1 && not (eqb y 1))) refl refl refl refl)

-- `a & !b`, where `!b` is taken in k bits.
pub and-not : (k a b : ℕ) → a < 2 ^ k → b < 2 ^ k → bit_and a ((2 ^ k - 1) - b) ≡ rest a b
unfolding rest
and-not zero a b ha hb = ap (λ (x : ℕ). bit_and x (0 - b)) (lt-one ha) ∙ ap (λ (x : ℕ). rest x b) (sym (lt-one ha))
and-not (suc k) a b ha hb =
    let m = (2 ^ suc k - 1) - b in
    let half : m / 2 ≡ (2 ^ k - 1) - b / 2 = omega (arith, pow-suc 2 k) in
    let odd : m % 2 ≡ 1 - b % 2 = omega (arith, pow-suc 2 k) in
    let ih = and-not k (a / 2) (b / 2) (omega (arith, pow-suc 2 k)) (omega (arith, pow-suc 2 k)) in
    and_step a m
    ∙ ap₂ (λ (x y : ℕ). x * 2 + min (a % 2) y) (ap (bit_and (a / 2)) half ∙ ih) odd
    ∙ ap (λ (x : ℕ). rest (a / 2) (b / 2) * 2 + x) (digits (λ x y. min x (1 - y) ≡ x - min x y) refl refl refl refl (a % 2) (b % 2) (digit a) (digit b))
    ∙ sym (rest-step a b)

-- ---- particular sets

pub has-none : (i : ℕ) → has 0 i ≡ false
has-none zero = first-no 0 refl
has-none (suc i) = has-suc 0 i ∙ has-none i

-- No job at k or past it.
pub has-high : (k s i : ℕ) → s < 2 ^ k → k ≤ i → has s i ≡ false
unfolding has
has-high k s i b h = let l : s < 2 ^ i = omega (arith, pow_mono h) in rw (div-eq_of_lt l)

-- A member of a set of k jobs is one of them.
pub member-lt : (k s i : ℕ) → s < 2 ^ k → has s i ≡ true → i < k
member-lt k s i b e = elim (dec_le (suc i) k) [ yes g ↦ g | no g ↦ absurd (false≢true (sym (has-high k s i b (omega arith)) ∙ e)) ]

pub has-full : (n i : ℕ) → i < n → has (2 ^ n - 1) i ≡ true
has-full zero i l = absurd (omega arith)
has-full (suc n) zero l = first-has (2 ^ suc n - 1) (omega (arith, pow_pos n))
has-full (suc n) (suc i) l =
    let half : (2 ^ suc n - 1) / 2 ≡ 2 ^ n - 1 = omega (arith, pow_pos n) in
    has-suc (2 ^ suc n - 1) i ∙ ap (λ (x : ℕ). has x i) half ∙ has-full n i (omega arith)

has-power : (i j : ℕ) → has (2 ^ i) j ≡ eqb i j
has-power zero zero = has-zero 1
has-power zero (suc j) = has-suc 1 j ∙ has-none j ∙ sym (eqb-zero-suc j)
has-power (suc i) zero =
    let even : 2 ^ suc i % 2 ≡ 0 = omega (arith, pow-suc 2 i) in
    has-zero (2 ^ suc i) ∙ ap (λ (x : ℕ). eqb x 1) even ∙ sym (eqb-suc-zero i)
has-power (suc i) (suc j) =
    let half : 2 ^ suc i / 2 ≡ 2 ^ i = omega (arith, pow-suc 2 i) in
    has-suc (2 ^ suc i) j ∙ ap (λ (x : ℕ). has x j) half ∙ has-power i j ∙ sym (eqb-suc-suc i j)

-- The set of one job below the number of places.
pub single-is : (i : ℕ) → i < places → single i ≡ 2 ^ i
unfolding single
single-is i l = mod-eq_of_lt (pow-lt l)

-- Past them it is empty.
pub single-past : (i : ℕ) → places ≤ i → single i ≡ 0
unfolding single
single-past i l =
    let e : i ≡ places + (i - places) = omega arith in
    ap (λ (k : ℕ). 2 ^ k % 2 ^ places) e ∙ rw (pow-add 2 places (i - places)) (mul-mod_right (2 ^ places) (2 ^ (i - places)))

-- 1 shifted by a place below the last.
pub shifted : (i : ℕ) → i < places → 1 * 2 ^ i % 2 ^ places ≡ 2 ^ i
unfolding single
shifted i l = rw one-mul (single-is i l)

pub has-single : (i j : ℕ) → i < places → has (single i) j ≡ eqb i j
has-single i j l = ap (λ (x : ℕ). has x j) (single-is i l) ∙ has-power i j

pub has-insert : (s i j : ℕ) → i < places → has (insert s i) j ≡ (has s j || eqb i j)
unfolding insert
has-insert s i j l = has-or j s (single i) ∙ ap (λ (b : Bool). has s j || b) (has-single i j l)

pub has_join : (i r s : ℕ) → has (join r s) i ≡ (has r i || has s i)
unfolding join
has_join i r s = has-or i r s

pub has-remove : (s i j : ℕ) → i < places → has (remove s i) j ≡ (has s j && not (eqb i j))
unfolding remove
has-remove s i j l = has_rest j s (single i) ∙ ap (λ (b : Bool). has s j && not b) (has-single i j l)

pub eqb_swap : (a b : ℕ) → eqb a b ≡ eqb b a
eqb_swap a b = elim (ℕ_discrete a b) [
  | yes e ↦ eq-eqb a b e ∙ sym (eq-eqb b a (sym e))
  | no e ↦ ne_eqb a b e ∙ sym (ne_eqb b a (λ (x : b ≡ a). e (sym x)))
]

-- The members of s but one, at a place below the last.
pub has-others : (s k i : ℕ) → i < places → has (remove s k) i ≡ (has s i && not (eqb i k))
unfolding remove
has-others s k i l = elim (dec_le (suc k) places) [
  | yes g ↦ has-remove s k i g ∙ ap (λ (b : Bool). has s i && not b) (eqb_swap k i)
  | no g ↦ past (omega arith)
]
  where
    past : places ≤ k → has (remove s k) i ≡ (has s i && not (eqb i k))
    past g =
        has_rest i s (single k)
        ∙ ap (λ (b : Bool). has s i && not b) (ap (λ (x : ℕ). has x i) (single-past k g) ∙ has-none i ∙ sym (ne_eqb i k (λ e. omega arith)))

-- ---- a loop that collects the places of a set: b is the test that the code made at place n

pub collect-none : (set : Set) → Collects 0 set 0
collect-none set i = has-none i ∙ sym (ap (λ (b : Bool). b && set i) (le-ltb i 0 (omega arith)))

module _ (n : ℕ) (set : Set) (s : ℕ) (C : Collects n set s) {b : Bool} (test : b ≡ set n) where
  -- At another place nothing changes.
  elsewhere : (i : ℕ) → (i ≡ n → ⊥) → (ltb i (n + 1) && set i) ≡ (ltb i n && set i)
  elsewhere i d =
      let same : ltb i (n + 1) ≡ ltb i n = elim (dec_le n i) [
        | yes l ↦ le-ltb i (n + 1) (omega arith) ∙ sym (le-ltb i n l)
        | no l ↦ lt-ltb i (n + 1) (omega arith) ∙ sym (lt-ltb i n (omega arith))
      ]
      in
      ap (λ (x : Bool). x && set i) same

  pub collect-in : n < places → b ≡ true → (r : ℕ) → r ≡ insert s n → Collects (n + 1) set r
  collect-in l e r x i = elim (ℕ_discrete i n) [
    | yes g ↦
        let own : has (insert s n) n ≡ true = has-insert s n n l ∙ ap (λ (y : Bool). has s n || y) (eq-eqb n n refl) ∙ or-true (has s n) in
        let here : (ltb n (n + 1) && set n) ≡ true = ap₂ ◌&&◌ (lt-ltb n (n + 1) (omega arith)) (sym test ∙ e) in
        rw (g, x) (own ∙ sym here)
    | no g ↦
        rw x (has-insert s n i l ∙ ap (λ (y : Bool). has s i || y) (ne_eqb n i (λ z. g (sym z))) ∙ or-false (has s i) ∙ C i ∙ sym (elsewhere i g))
  ]

  pub collect-out : b ≡ false → (r : ℕ) → r ≡ s → Collects (n + 1) set r
  collect-out e r x i = elim (ℕ_discrete i n) [
    | yes g ↦
        let now : (ltb n n && set n) ≡ false = ap (λ (y : Bool). y && set n) (le-ltb n n (omega arith)) in
        let then : (ltb n (n + 1) && set n) ≡ false = ap₂ ◌&&◌ (lt-ltb n (n + 1) (omega arith)) (sym test ∙ e) in
        rw (g, x) (C n ∙ now ∙ sym then)
    | no g ↦ rw x (C i ∙ sym (elsewhere i g))
  ]

-- ---- numbers and members

halves : (n r s : ℕ) → Sub (suc n) (has s) (has r) → Sub n (has (s / 2)) (has (r / 2))
halves n r s h i l e = sym (has-suc r i) ∙ h (suc i) (omega arith) (has-suc s i ∙ e)

sub-le : (n r s : ℕ) → s < 2 ^ n → Sub n (has s) (has r) → s ≤ r
sub-le zero r s b h = omega arith
sub-le (suc n) r s b h = omega (arith, sub-le n (r / 2) (s / 2) (omega arith) (halves n r s h), low)
  where
    low : s % 2 ≤ r % 2
    low = elim (ℕ_discrete (s % 2) 1) [ yes e ↦ omega (arith, has_first r (h 0 (omega arith) (first-has s e))) | no e ↦ omega arith ]

-- Two numbers with the same members are the same.
pub has_same : (n r s : ℕ) → r < 2 ^ n → s < 2 ^ n → Sub n (has r) (has s) → Sub n (has s) (has r) → r ≡ s
has_same n r s br bs h g = le_antisymm (sub-le n s r br h) (sub-le n r s bs g)

pub has-pos : (s i : ℕ) → has s i ≡ true → 0 < s
has-pos s i h = elim (ℕ_discrete s 0) [
  | yes e ↦ absurd (false≢true (sym (has-none i) ∙ ap (λ (x : ℕ). has x i) (sym e) ∙ h))
  | no e ↦ omega arith
]

-- A number above 0 has a member.
pub has_some : (n s : ℕ) → s < 2 ^ n → 0 < s → (i : ℕ) × (i < n) × (has s i ≡ true)
has_some n s b p = go (fails-at (λ i. not (has s i)) n)
  where
    go : ((i : ℕ) → i < n → not (has s i) ≡ true) ⊎ ((i : ℕ) × (i < n) × (not (has s i) ≡ false)) → (i : ℕ) × (i < n) × (has s i ≡ true)
    go (inl h) = absurd (omega (arith, sub-le n 0 s b (λ i l e. absurd (false≢true (sym (not-true (has s i) (h i l)) ∙ e)))))
    go (inr w) = (w.0, w.1, not-false (has s w.0) w.2)

-- The number of a set of n places.
pub number : Set → ℕ → ℕ
number s zero = 0
number s (suc n) = cond (s 0) 1 0 + 2 * number (λ i. s (suc i)) n

bit : (b : Bool) → cond b 1 0 ≤ 1
bit true = omega arith
bit false = omega arith

pub number_lt : (s : Set) (n : ℕ) → number s n < 2 ^ n
unfolding number
number_lt s zero = omega arith
number_lt s (suc n) = omega (arith, bit (s 0), number_lt (λ i. s (suc i)) n)

pub has-number : (s : Set) (n i : ℕ) → i < n → has (number s n) i ≡ s i
unfolding number
has-number s zero i l = absurd (omega arith)
has-number s (suc n) zero l = go (s 0) (number (λ i. s (suc i)) n)
  where
    go : (b : Bool) (m : ℕ) → has (cond b 1 0 + 2 * m) 0 ≡ b
    go true m = first-has (1 + 2 * m) (omega arith)
    go false m = first-no (0 + 2 * m) (omega arith)
has-number s (suc n) (suc i) l =
    let half : (cond (s 0) 1 0 + 2 * number (λ i. s (suc i)) n) / 2 ≡ number (λ i. s (suc i)) n = omega (arith, bit (s 0)) in
    has-suc (cond (s 0) 1 0 + 2 * number (λ i. s (suc i)) n) i ∙ ap (λ (x : ℕ). has x i) half ∙ has-number (λ i. s (suc i)) n i (omega arith)
