-- The lines of a text one after the other. Assumes nothing.
use Prim.Native.Nat.{ℕ, zero, suc, ◌+◌, ◌-◌, ◌≤◌, ◌<◌}
use mathlib.Core.Path.{◌≡◌, refl, sym, ap, ◌∙◌}
use mathlib.Core.List.{List, []}
use native.Mathlib.Omega.{arith}
use lib.ListN.{length, take, drop, drop_of_length-le}
use lib.Seq.{drop-drop}
use Rattle.lists.specs.Words.{is_mark, before}
use Rattle.lists.specs.declared.words.Mark.TheVariants.{LineEnd}
use Rattle.lists.proofs.Parsing.{before-take}
use Rattle.writing.specs.Templates.{after_lines, line_of}

-- The line that begins at a place ends at another, and has one line less after it.
module _ (text : List ℕ) (k i at end : ℕ) (more : i < k) (found : end ≡ at + length (before (is_mark LineEnd) (drop at text))) where
  pub line-next : after_lines (k - i) (drop at text) ≡ after_lines (k - (i + 1)) (drop (end + 1) text)
  line-next =
      let rest = length (before (is_mark LineEnd) (drop at text)) + 1 in
      let one : k - i ≡ suc (k - (i + 1)) = omega arith in
      let place : at + rest ≡ end + 1 = omega (arith, found) in
      ap (λ (m : ℕ). after_lines m (drop at text)) one
      ∙ ap (after_lines (k - (i + 1))) (drop-drop rest at text)
      ∙ ap (λ (m : ℕ). after_lines (k - (i + 1)) (drop m text)) place

  -- After the last line there is nothing.
  pub line-past : length text ≤ end → after_lines (k - i) (drop at text) ≡ drop (length text) text
  line-past past =
      line-next ∙ ap (after_lines (k - (i + 1))) (drop_of_length-le text {i = end + 1} (omega arith)) ∙ nothing-after (k - (i + 1)) ∙ sym (drop_of_length-le text {i = length text} (omega arith))
    where
      nothing-after : (m : ℕ) → after_lines m [] ≡ []
      nothing-after zero = refl
      nothing-after (suc m) = nothing-after m

-- The part of a text between the start of a line and its end.
pub line-part : (text : List ℕ) (k start end : ℕ) → drop start text ≡ after_lines k text → end ≡ start + length (before (is_mark LineEnd) (drop start text))
    → take (end - start) (drop start text) ≡ line_of text k
unfolding line_of
line-part text k start end starts found =
    let size : end - start ≡ length (before (is_mark LineEnd) (drop start text)) = omega (arith, found) in
    ap (λ (m : ℕ). take m (drop start text)) size ∙ before-take (is_mark LineEnd) (drop start text) ∙ ap (before (is_mark LineEnd)) starts
