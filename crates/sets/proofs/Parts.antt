-- Laws of subsets, of the rest of a set and of sizes, at any width. Assumes nothing.
use mathlib.Core.Path.{◌≡◌, refl, sym, ◌∙◌, ap}
use mathlib.Core.Bool.{Bool, true, cond, and-eq-true_iff}
use mathlib.Core.Logic.{◌≢◌}
use Prim.Native.Nat.{ℕ, zero, suc, ◌+◌, ◌-◌, ◌/◌, ◌%◌, ◌^◌, ◌≤◌, ◌<◌}
use native.Mathlib.Decide.{ℕ_discrete}
use native.Mathlib.Omega.{arith}
use lib.Arith.{bin_ind}
use lib.Bits.{bit_and, and_le_l, and_le_r, and_comm, and_self}
use lib.Count.{ones, ones_step, ones-le, ones-ones}
use borrow.Author.Tests.{eqb-true, eq-eqb}
use Rattle.sets.specs.Places.{count}
use Rattle.sets.specs.Sets.{has, rest, within, size}
use Rattle.sets.proofs.Places.{count_none, count-first, count_same, count-one, count-only, count-other}
use Rattle.sets.proofs.Members.{and-half, and-odd, rest-half, rest-odd, has-and, has-suc, first-has, first-no, has_same, member-lt}

-- ---- subsets

within-and : (p s : ℕ) → within p s ≡ true → bit_and p s ≡ p
unfolding within
within-and p s h = eqb-true (bit_and p s) p h

pub within_has : (p s : ℕ) → within p s ≡ true → (i : ℕ) → has p i ≡ true → has s i ≡ true
within_has p s h i e = ((and-eq-true_iff (has p i) (has s i)).0 (sym (has-and i p s) ∙ ap (λ (x : ℕ). has x i) (within-and p s h) ∙ e)).1

pub has_within : (k p s : ℕ) → p < 2 ^ k → ((i : ℕ) → i < k → has p i ≡ true → has s i ≡ true) → within p s ≡ true
unfolding within
has_within k p s b h =
    eq-eqb (bit_and p s) p
    (has_same k (bit_and p s) p (omega (arith, and_le_l p s)) b
    (λ i l e. ((and-eq-true_iff (has p i) (has s i)).0 (sym (has-and i p s) ∙ e)).0)
    (λ i l e. has-and i p s ∙ (and-eq-true_iff (has p i) (has s i)).1 (e, h i l e)))

pub within-le : (p s : ℕ) → within p s ≡ true → p ≤ s
within-le p s h = omega (arith, within-and p s h, and_le_r p s)

pub within-refl : (s : ℕ) → within s s ≡ true
unfolding within
within-refl s = eq-eqb (bit_and s s) s (and_self s)

-- ---- the rest

rest_le : (r s : ℕ) → rest r s ≤ r
unfolding rest
rest_le r s = omega arith

pub rest_lt : (k r s : ℕ) → r < 2 ^ k → rest r s < 2 ^ k
rest_lt k r s h = omega (arith, rest_le r s)

-- ---- sizes

size_step : (s : ℕ) → size s ≡ s % 2 + size (s / 2)
unfolding size
size_step s = ones_step s

pub size-empty : size 0 ≡ 0
unfolding size ones
size-empty = refl

pub size-full : (n : ℕ) → size (2 ^ n - 1) ≡ n
unfolding size
size-full n = ones-ones n

pub size-bound : (k s : ℕ) → s < 2 ^ k → size s ≤ k
unfolding size
size-bound k s h = ones-le k s h

pub size-pos : (k s : ℕ) → s < 2 ^ k → 0 < s → 0 < size s
size-pos zero s b p = absurd (omega arith)
size-pos (suc k) s b p = elim (ℕ_discrete (s % 2) 0) [
  | yes e ↦ omega (arith, size_step s, size-pos k (s / 2) (omega arith) (omega arith))
  | no e ↦ omega (arith, size_step s)
]

-- The first place apart.
pub size_low : (s : ℕ) → size s ≡ cond (has s 0) 1 0 + size (s / 2)
size_low s = omega (arith, size_step s, low)
  where
    low : cond (has s 0) 1 0 ≡ s % 2
    low = elim (ℕ_discrete (s % 2) 1) [
      | yes e ↦ ap {B = ℕ} (λ (x : Bool). cond x 1 0) (first-has s e) ∙ sym e
      | no e ↦ let z : s % 2 ≡ 0 = omega arith in ap {B = ℕ} (λ (x : Bool). cond x 1 0) (first-no s z) ∙ sym z
    ]

-- The size is the number of members.
pub size-count : (k s : ℕ) → s < 2 ^ k → size s ≡ count k (has s)
size-count zero s b = let e : s ≡ 0 = omega arith in ap size e ∙ size-empty ∙ sym (count_none (has s))
size-count (suc k) s b =
    omega (arith, size_low s, count-first k (has s), size-count k (s / 2) (omega arith), count_same k (λ i. has s (suc i)) (has (s / 2)) (λ i l. has-suc s i))

size-rest-and : (r s : ℕ) → size (rest r s) + size (bit_and r s) ≡ size r
unfolding size
size-rest-and =
    bin_ind (λ (n : ℕ). (s : ℕ) → size (rest n s) + size (bit_and n s) ≡ size n) (λ s. unfold rest ones in refl)
    (λ n ih s. omega (arith, ones_step (rest n s), ap ones (rest-half n s), rest-odd n s, ones_step (bit_and n s), ap ones (and-half n s), and-odd n s, ones_step n, ih (s / 2)))

pub size-rest : (r s : ℕ) → within s r ≡ true → size (rest r s) + size s ≡ size r
size-rest r s h = ap (λ (x : ℕ). size (rest r s) + size x) (sym (and_comm r s ∙ within-and s r h)) ∙ size-rest-and r s

-- A set of size 1 has one member.
pub size-one : (k s : ℕ) → s < 2 ^ k → size s ≡ 1 → (i j : ℕ) → has s i ≡ true → has s j ≡ true → i ≡ j
size-one k s b o i j ei ej =
    count-only k (has s) i j (sym (size-count k s b) ∙ o) (member-lt k s i b ei) (member-lt k s j b ej) ei ej

-- A set of another size than 1 has another member beside each.
pub size-more : (k s : ℕ) → s < 2 ^ k → (i : ℕ) → has s i ≡ true → size s ≢ 1 → (j : ℕ) × (j < k) × (has s j ≡ true) × (j ≢ i)
size-more k s b i e o =
    count-other k (has s) i (omega (arith, size-count k s b, count-one k (has s) i (member-lt k s i b e) e, o))
