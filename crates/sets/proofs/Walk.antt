-- The walk along a sequence of sets, place by place. Assumes nothing.
use mathlib.Core.Path.{◌≡◌, refl, sym, ◌∙◌, ap}
use mathlib.Core.Bool.{Bool, true, false, cond}
use mathlib.Core.List.{List, [], ◌∷◌}
use Prim.Native.Nat.{ℕ, zero, suc, ◌+◌, ◌≤◌, ◌<◌}
use native.Mathlib.Nat.{le_refl}
use native.Mathlib.Decide.{dec_le}
use native.Mathlib.Omega.{arith}
use native.Mathlib.Numerals.{add-one}
use lib.ListN.{length, get_or, drop, drop_of_length-le}
use lib.Seq.{drop-cons}
use Rattle.sets.specs.Sets.{within}
use Rattle.sets.specs.Order.{keep, next_from, subsets}
use Rattle.std.specs.Prelude.{Option, None, Some}

-- A place of the walk: b is the test that the code made.
module _ (sequence : List ℕ) (left p : ℕ) (l : p < length sequence) {b : Bool} (test : b ≡ within (get_or sequence p 0) left) where
  next-step : next_from left p (drop p sequence) ≡ cond b (Some p) (next_from left (p + 1) (drop (p + 1) sequence))
  unfolding next_from
  next-step = rw (add-one, test) (ap (next_from left p) (drop-cons sequence p 0 l))

  pub next-found : b ≡ true → next_from left p (drop p sequence) ≡ Some p
  next-found e = next-step ∙ rw e

  pub next-skipped : b ≡ false → next_from left p (drop p sequence) ≡ next_from left (p + 1) (drop (p + 1) sequence)
  next-skipped e = next-step ∙ rw e

pub next-end : (sequence : List ℕ) (left p : ℕ) → length sequence ≤ p → next_from left p (drop p sequence) ≡ None
unfolding next_from
next-end sequence left p l = ap (next_from left p) (drop_of_length-le sequence {i = p} l)

-- ---- what the walk says of the subsets

-- From place p on, the first subset stands at place f.
pub record Step (sequence : List ℕ) (left p f : ℕ) : Type 0 where
  pub later : p ≤ f
  pub before : f < length sequence
  pub inside : within (get_or sequence f 0) left ≡ true
  pub first : subsets left (drop p sequence) ≡ get_or sequence f 0 ∷ subsets left (drop (f + 1) sequence)

abbrev Says : List ℕ → ℕ → ℕ → Option ℕ → Type 0
Says sequence left p (Some f) = Step sequence left p f
Says sequence left p None = subsets left (drop p sequence) ≡ []

walk : (sequence : List ℕ) (left m p : ℕ) → length sequence ≤ p + m → Says sequence left p (next_from left p (drop p sequence))
unfolding subsets keep
walk sequence left zero p h = rw (next-end sequence left p (omega arith)) (ap (subsets left) (drop_of_length-le sequence {i = p} (omega arith)))
walk sequence left (suc m) p h = elim (dec_le (length sequence) p) [
  | yes l ↦ rw (next-end sequence left p l) (ap (subsets left) (drop_of_length-le sequence {i = p} l))
  | no l ↦ go (omega arith) (within (get_or sequence p 0) left) refl (walk sequence left m (p + 1) (omega arith))
]
  where
    one-step : p < length sequence → subsets left (drop p sequence)
        ≡ cond (within (get_or sequence p 0) left) (get_or sequence p 0 ∷ subsets left (drop (p + 1) sequence)) (subsets left (drop (p + 1) sequence))
    one-step l = rw add-one (ap (subsets left) (drop-cons sequence p 0 l))

    go : p < length sequence → (b : Bool) → within (get_or sequence p 0) left ≡ b → Says sequence left (p + 1) (next_from left (p + 1) (drop (p + 1) sequence))
        → Says sequence left p (next_from left p (drop p sequence))
    go l true e ih = rw (next-found sequence left p l (sym e) refl) (record {
      later = le_refl p;
      before = l;
      inside = e;
      first = one-step l ∙ rw e;
    })
    go l false e ih = rw (next-skipped sequence left p l (sym e) refl) (on (next_from left (p + 1) (drop (p + 1) sequence)) ih)
      where
        same : subsets left (drop p sequence) ≡ subsets left (drop (p + 1) sequence)
        same = one-step l ∙ rw e

        on : (o : Option ℕ) → Says sequence left (p + 1) o → Says sequence left p o
        on (Some f) S = record { later = omega (arith, S.later); before = S.before; inside = S.inside; first = same ∙ S.first }
        on None S = same ∙ S

module _ (sequence : List ℕ) (left p : ℕ) where
  pub walk-found : (f : ℕ) → next_from left p (drop p sequence) ≡ Some f → Step sequence left p f
  walk-found f e = rw e at (walk sequence left (length sequence) p (omega arith))

  pub walk_ends : next_from left p (drop p sequence) ≡ None → subsets left (drop p sequence) ≡ []
  walk_ends e = rw e at (walk sequence left (length sequence) p (omega arith))
