use Prim.Native.Nat.{ℕ, zero, suc, ◌<◌}
use mathlib.Core.Path.{◌≡◌, refl, sym, ap, ap₂, ◌∙◌}
use mathlib.Core.List.{List, [], ◌∷◌, ◌++◌, map}
use native.Mathlib.Numerals.{add-one}
use native.Mathlib.Omega.{arith}
use lib.ListN.{length, get_or, take, drop, set}
use Rattle.command.specs.Words.{shown_byte}
use Rattle.command.proofs.show.Goals as goal

-- The next byte is still that of the name, and then it is shown.
kept : (xs : List ℕ) (i : ℕ) → i < length xs → get_or (map shown_byte (take i xs) ++ drop i xs) i 0 ≡ get_or xs i 0
kept [] i h = absurd (omega arith)
kept (x ∷ xs) zero h = refl
kept (x ∷ xs) (suc i) h = kept xs i (omega arith)

next : (xs : List ℕ) (i : ℕ) → i < length xs → set (map shown_byte (take i xs) ++ drop i xs) i (shown_byte (get_or xs i 0)) ≡ map shown_byte (take (suc i) xs) ++ drop (suc i) xs
next [] i h = absurd (omega arith)
next (x ∷ xs) zero h = refl
next (x ∷ xs) (suc i) h = ap (λ (l : List ℕ). shown_byte x ∷ l) (next xs i (omega arith))

pub loop-byte-preserved : goal.loop-byte-preserved
loop-byte-preserved c =
    let xs = c.args.name.now in
    let i = c.loop-byte.byte-index in
    let h : i < length xs = omega arith in
    ap₂ (λ (l : List ℕ) (b : ℕ). set l i b) c.loop-byte.invariant (c.shown.ensures ∙ ap shown_byte (ap (λ (l : List ℕ). get_or l i 0) c.loop-byte.invariant ∙ kept xs i h))
    ∙ next xs i h
    ∙ ap (λ (k : ℕ). map shown_byte (take k xs) ++ drop k xs) (sym (add-one i))
