-- When two blocks are the same bytes, and that they are exactly if they are equal. Assumes nothing.
use Prim.Native.Nat.{ℕ, ◌<◌}
use mathlib.Core.Path.{◌≡◌, refl, sym, ap, ap₂, ◌∙◌}
use mathlib.Core.Bool.{Bool, true, false, ◌&&◌, and-eq-true_iff, and-false}
use mathlib.Core.List.{List, ◌++◌}
use mathlib.Core.Logic.{◌↔◌}
use lib.Dec.{eqb}
use lib.ListN.{length, get_or, take, drop}
use lib.Seq.{ext_get_or, take-append_seam, drop-append_seam}
use borrow.Author.Tests.{eq-eqb, ne_eqb, eqb-true}
use Rattle.std.proofs.lemmas.Bool.{false≢true}
use Rattle.std.specs.Bool.{Decides, one_answer}
use Rattle.sets.specs.Places.{every}
use Rattle.sets.proofs.Places.{every_of, every-at, every-stop}
use Rattle.same_bytes.specs.Same.{same_at, same_bytes}

module _ (a b : List ℕ) where
  pub same-lengths : (length a ≡ length b → ⊥) → same_bytes a b ≡ false
  unfolding same_bytes
  same-lengths h = ap (λ (x : Bool). x && every (same_at a b) (length a)) (ne_eqb (length a) (length b) h)

  pub same_stop : (i : ℕ) → i < length a → same_at a b i ≡ false → same_bytes a b ≡ false
  unfolding same_bytes
  same_stop i l e = ap (λ (x : Bool). eqb (length a) (length b) && x) (every-stop (same_at a b) (length a) i l e) ∙ and-false (eqb (length a) (length b))

  pub same-all : length a ≡ length b → every (same_at a b) (length a) ≡ true → same_bytes a b ≡ true
  unfolding same_bytes
  same-all h e = (and-eq-true_iff (eqb (length a) (length b)) (every (same_at a b) (length a))).1 (eq-eqb (length a) (length b) h, e)

pub same-exactly : (a b : List ℕ) → (same_bytes a b ≡ true) ↔ (a ≡ b)
unfolding same_bytes
same-exactly a b = (
  λ e.
      let w = (and-eq-true_iff (eqb (length a) (length b)) (every (same_at a b) (length a))).0 e in
      ext_get_or 0 a b (eqb-true (length a) (length b) w.0) (λ i l. eqb-true _ _ (every-at (same_at a b) (length a) w.1 i l)),
  λ e. same-all a b (ap length e) (every_of (same_at a b) (length a) (λ i l. eq-eqb _ _ (ap (λ (s : List ℕ). get_or s i 0) e))),
)

pub not_same : (a b : List ℕ) → (a ≡ b → ⊥) → same_bytes a b ≡ false
not_same a b h = go (same_bytes a b) refl
  where
    go : (t : Bool) → same_bytes a b ≡ t → t ≡ false
    go false e = refl
    go true e = absurd (h ((same-exactly a b).0 e))

-- What decides equality of the blocks is the test.
pub decided : (a b : List ℕ) (answer : Bool) → Decides answer (a ≡ b) → answer ≡ same_bytes a b
decided a b answer h = one_answer answer (same_bytes a b) h (same-exactly a b)

-- ---- blocks in two parts

apart : (x y xs ys : List ℕ) → length x ≡ length y → x ++ xs ≡ y ++ ys → (x ≡ y) × (xs ≡ ys)
apart x y xs ys long e = (
  sym (take-append_seam x xs) ∙ ap₂ take long e ∙ take-append_seam y ys,
  sym (drop-append_seam x xs) ∙ ap₂ drop long e ∙ drop-append_seam y ys,
)

pub same-split : (x y xs ys : List ℕ) → length x ≡ length y → same_bytes (x ++ xs) (y ++ ys) ≡ same_bytes x y && same_bytes xs ys
same-split x y xs ys long = go (same_bytes x y) refl (same_bytes xs ys) refl
  where
    go : (s : Bool) → same_bytes x y ≡ s → (t : Bool) → same_bytes xs ys ≡ t → same_bytes (x ++ xs) (y ++ ys) ≡ s && t
    go true e true f = (same-exactly (x ++ xs) (y ++ ys)).1 (ap₂ ◌++◌ ((same-exactly x y).0 e) ((same-exactly xs ys).0 f))
    go true e false f = not_same _ _ (λ p. false≢true (sym f ∙ (same-exactly xs ys).1 (apart x y xs ys long p).1))
    go false e t f = not_same _ _ (λ p. false≢true (sym e ∙ (same-exactly x y).1 (apart x y xs ys long p).0))
