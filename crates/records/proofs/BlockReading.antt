-- Reading a block of records, one for each of m jobs: refusal 7 of its size, then the tests of its records. It holds for every kind of
-- record, every width and any such tests. Assumes nothing.
use Prim.Native.Nat.{ℕ, ◌*◌}
use mathlib.Core.Path.{◌≡◌, sym, ap, ap₂, ◌∙◌}
use mathlib.Core.List.{List, [], ◌∷◌}
use lib.Dec.{eqb}
use lib.ListN.{length, take}
use borrow.Author.Tests.{eq-eqb, ne_eqb}
use Rattle.std.specs.Prelude.{Result, Ok, Err}
use Rattle.records.specs.Refusals.{Answer, refused, given, number, Tests, outcome, answer, verdict}
use Rattle.records.specs.Records.{chunks, table}
use Rattle.records.specs.declared.refusal.Refusal.{Refusal}
use Rattle.records.proofs.Outcomes.{refuses-alike, gives-alike}
use Rattle.records.proofs.FixedWidth.{length-chunks, take-table}

-- `count` is the number of jobs as the reader has it, and k the size of its table.
module _ {A : Type 0} (w : ℕ) (read : List ℕ → A) (blank : A) (k m : ℕ) (block : List ℕ) (tests : List A → Tests) (count : ℕ) (size : m ≡ count) where
  abbrev records : List A
  records = chunks w read m block

  abbrev none : List A
  none = table k blank []

  abbrev reading : Answer ℕ × List A
  reading = outcome ((eqb (length block) (w * m), 7) ∷ tests records) m (table k blank records) none

  pub block_size : (length block ≡ w * count → ⊥) → (refused 7, none) ≡ reading
  block_size other = sym (simp (ne_eqb (length block) (w * m) (λ e. other (e ∙ ap (λ (n : ℕ). w * n) size))))

  -- Past refusal 7: what was judged are the records of the block.
  module _ (whole : length block ≡ w * count) (decoded : List A) (made : decoded ≡ table k blank (chunks w read count block)) (v : Result (Unit {0}) Refusal)
      (judged : verdict v ≡ answer (tests (take count decoded)) tt)
    where
      past-size : reading ≡ outcome (tests records) m (table k blank records) none
      past-size = simp (eq-eqb (length block) (w * m) (whole ∙ ap (λ (n : ℕ). w * n) (sym size)))

      counted : chunks w read count block ≡ records
      counted = ap (λ (n : ℕ). chunks w read n block) (sym size)

      saw : verdict v ≡ answer (tests records) tt
      saw =
          judged
          ∙ ap (λ (l : List A). answer (tests l) tt)
          (ap (take count) made ∙ take-table k blank count (chunks w read count block) (length-chunks w read count block) ∙ counted)

      pub block-turned : (refusal : Refusal) → v ≡ Err refusal → (refused (number refusal), none) ≡ reading
      block-turned refusal e = sym (past-size ∙ refuses-alike (tests records) tt tt tt m (table k blank records) none (number refusal) (sym saw ∙ ap verdict e))

      pub block_read : (u : Unit {0}) → v ≡ Ok u → (given count, decoded) ≡ reading
      block_read u e =
          ap₂ (λ (n : ℕ) (t : List A). (given n, t)) (sym size) (made ∙ ap (table k blank) counted)
          ∙ sym (past-size ∙ gives-alike (tests records) tt tt tt m (table k blank records) none tt (sym saw ∙ ap verdict e))
