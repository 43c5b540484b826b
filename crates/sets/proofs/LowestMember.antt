-- The lowest member of a set is a member; a set without one of its members is smaller by one, and has the others. Assumes nothing.
use mathlib.Core.Path.{◌≡◌, refl, sym, ◌∙◌, ap}
use mathlib.Core.Bool.{Bool, true, false, not, ◌&&◌, and-eq-true_iff, and-false, false≢true}
use mathlib.Core.Logic.{◌⊎◌, inl, inr}
use Prim.Native.Nat.{ℕ, zero, suc, ◌+◌, ◌/◌, ◌%◌, ◌^◌, ◌<◌}
use native.Mathlib.Nat.{pow-suc}
use native.Mathlib.Decide.{ℕ_discrete}
use native.Mathlib.Omega.{arith}
use lib.Count.{count_trailing_zeros, under}
use lib.Dec.{eqb}
use lib.Pow.{pow-lt}
use borrow.Author.Tests.{eqb-true, eq-eqb, ne_eqb}
use Rattle.sets.specs.Sets.{places, has, single, remove, within, size, lowest}
use Rattle.sets.proofs.Members.{has-zero, has-suc, has-single, has-remove, single-is}
use Rattle.sets.proofs.Parts.{size-count, size-rest, has_within, within_has}
use Rattle.sets.proofs.Places.{count-alone}

odd-or-even : (n : ℕ) → (n % 2 ≡ 0) ⊎ (n % 2 ≡ 1)
odd-or-even n = elim (ℕ_discrete (n % 2) 0) [ yes e ↦ inl e | no e ↦ inr (omega arith) ]

trailing-step : (n t d : ℕ) → t % 2 ≡ d → count_trailing_zeros (suc n) t ≡ under d (count_trailing_zeros n (t / 2))
unfolding count_trailing_zeros
trailing-step n t d e = ap (λ (x : ℕ). under x (count_trailing_zeros n (t / 2))) e

has-low : (t d : ℕ) → t % 2 ≡ d → has t 0 ≡ eqb d 1
has-low t d e = has-zero t ∙ ap (λ (x : ℕ). eqb x 1) e

trailing-in : (n t : ℕ) → 0 < t → t < 2 ^ n → (count_trailing_zeros n t < n) × (has t (count_trailing_zeros n t) ≡ true)
trailing-in zero t h k = absurd (omega arith)
trailing-in (suc n) t h k = go (trailing-in n (t / 2)) (odd-or-even t)
  where
    go : (0 < t / 2 → t / 2 < 2 ^ n → (count_trailing_zeros n (t / 2) < n) × (has (t / 2) (count_trailing_zeros n (t / 2)) ≡ true)) → (t % 2 ≡ 0) ⊎ (t % 2 ≡ 1)
        → (count_trailing_zeros (suc n) t < suc n) × (has t (count_trailing_zeros (suc n) t) ≡ true)
    go ih (inl e) =
        let w = ih (omega arith) (omega (arith, pow-suc 2 n)) in
        (omega (arith, trailing-step n t 0 e, w.0), ap (has t) (trailing-step n t 0 e) ∙ has-suc t (count_trailing_zeros n (t / 2)) ∙ w.1)
    go ih (inr e) = (omega (arith, trailing-step n t 1 e), ap (has t) (trailing-step n t 1 e) ∙ has-low t 1 e)

lowest-in : (s : ℕ) → 0 < s → s < 2 ^ places → (lowest s < places) × (has s (lowest s) ≡ true)
unfolding lowest
lowest-in s h k = trailing-in places s h k

size-single : (i : ℕ) → i < places → size (single i) ≡ 1
size-single i l =
    size-count places (single i) (omega (arith, single-is i l, pow-lt l))
    ∙ count-alone places (has (single i)) i l (has-single i i l ∙ eq-eqb i i refl) (λ j jl e. sym (eqb-true i j (sym (has-single i j l) ∙ e)))

pub size-remove : (s i : ℕ) → i < places → has s i ≡ true → size (remove s i) + 1 ≡ size s
unfolding remove
size-remove s i l e = omega (arith, size-single i l, size-rest s (single i) inside)
  where
    inside : within (single i) s ≡ true
    inside =
        has_within places (single i) s (omega (arith, single-is i l, pow-lt l))
        (λ j jl f. ap (has s) (sym (eqb-true i j (sym (has-single i j l) ∙ f))) ∙ e)

-- A set without its lowest member.
pub record Split (s job after : ℕ) : Type 0 where
  pub small : job < places
  pub fewer : size after < size s
  pub own : has s job ≡ true
  pub off : has after job ≡ false
  pub inside : (i : ℕ) → has s i ≡ true → (i ≡ job → ⊥) → has after i ≡ true
  pub outside : (i : ℕ) → has s i ≡ false → has after i ≡ false

pub split : (s job after : ℕ) → (s ≡ 0 → ⊥) → s < 2 ^ places → job ≡ lowest s → after ≡ remove s job → Split s job after
split s job after some less ej ea = record {
  small = small;
  fewer = omega (arith, ap size ea, size-remove s job small own);
  own = own;
  off = at job ∙ ap (λ (b : Bool). has s job && not b) (eq-eqb job job refl) ∙ and-false (has s job);
  inside = λ i e d. at i ∙ (and-eq-true_iff (has s i) (not (eqb job i))).1 (e, ap not (ne_eqb job i (λ x. d (sym x))));
  outside = λ i e. at i ∙ ap (λ (b : Bool). b && not (eqb job i)) e;
}
  where
    w : (lowest s < places) × (has s (lowest s) ≡ true)
    w = lowest-in s (omega arith) less

    small : job < places
    small = omega (arith, w.0)

    own : has s job ≡ true
    own = ap (has s) ej ∙ w.1

    at : (i : ℕ) → has after i ≡ (has s i && not (eqb job i))
    at i = ap (λ (x : ℕ). has x i) ea ∙ has-remove s job i small

-- What is left of a part is still a part.
pub split-within : (s job after whole : ℕ) → Split s job after → after < 2 ^ places → within s whole ≡ true → within after whole ≡ true
split-within s job after whole S less w = has_within places after whole less (λ i l e. within_has s whole w i (go i (has s i) refl e))
  where
    go : (i : ℕ) (b : Bool) → has s i ≡ b → has after i ≡ true → has s i ≡ true
    go i true x e = x
    go i false x e = absurd (false≢true (sym (S.outside i x) ∙ e))
