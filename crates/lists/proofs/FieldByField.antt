-- Laws of the fields of a line, as a reader takes them one after the other. Assumes nothing.
use Prim.Native.Nat.{ℕ, ◌+◌, ◌-◌, ◌≤◌, ◌<◌}
use mathlib.Core.Path.{◌≡◌, refl, sym, ap, ap₂, ◌∙◌}
use mathlib.Core.Bool.{Bool, cond}
use mathlib.Core.List.{List, [], ◌∷◌, ◌++◌}
use native.Mathlib.Omega.{arith}
use native.Mathlib.Numerals.{add-one}
use lib.Dec.{lit≤}
use lib.ListN.{length, get_or, take, drop, drop_of_length-le}
use lib.Seq.{drop-cons}
use borrow.Author.Tests.{le-leb, lt-leb}
use Rattle.records.specs.Records.{table}
use Rattle.records.proofs.FixedWidth.{table_at}
use Rattle.lists.specs.declared.fault.Fault.{Fault}
use Rattle.lists.specs.declared.words.Mark.TheVariants.{Blank, Word}
use Rattle.std.specs.Prelude.{Result, Ok, Err}
use Rattle.lists.specs.declared.fields.Form.{Form}
use Rattle.lists.specs.declared.fields.Form.TheVariants.{Job, Setting, Kernel, Quanta}
use Rattle.lists.specs.Words.{is_mark, before, words}
use Rattle.lists.specs.Rows.{limits_of, needed_of, count_fault, word_of, Numbers, fields_from, row_of}
use Rattle.lists.proofs.Parsing.{no_word, next_word}

pub few-fields : (form : Form) → length (limits_of form) ≤ 5
few-fields Job = lit≤ tt
few-fields Setting = lit≤ tt
few-fields Kernel = lit≤ tt
few-fields Quanta = lit≤ tt

-- A row sees a table of numbers as it sees the numbers that the table begins with.
pub row-table : (seen : List ℕ) → row_of (table 5 0 seen) ≡ row_of seen
row-table seen = rw (table_at 0 seen (5 - length seen) 0, table_at 0 seen (5 - length seen) 1, table_at 0 seen (5 - length seen) 2, table_at 0 seen (5 - length seen) 3, table_at 0 seen (5 - length seen) 4)

-- The numbers of the fields so far, and the words from `at` on for the others.
module _ (form : Form) (content : List ℕ) (at i : ℕ) (seen : List ℕ) (inside : at ≤ length content) (long : length seen ≡ i) where
  abbrev limits : List ℕ
  limits = limits_of form

  abbrev here : Numbers
  here = fields_from form seen (drop i limits) (words (drop at content))

  module _ (start : ℕ) (found : start ≡ at + length (before (is_mark Word) (drop at content))) where
    -- No word is left.
    module _ (end : length content ≤ start) where
      ended : here ≡ fields_from form seen (drop i limits) []
      ended = ap (fields_from form seen (drop i limits)) (no_word content at start found end)

      pub too_few : i < length limits → i < needed_of form → here ≡ Err (count_fault form)
      too_few l h = ended ∙ ap (λ (x : List ℕ). fields_from form seen x []) (drop-cons limits i 0 l) ∙ ap (λ (b : Bool). cond b (Ok seen) (Err (count_fault form))) (lt-leb (needed_of form) (length seen) (omega arith))

      pub enough : i < length limits → needed_of form ≤ i → here ≡ Ok seen
      enough l h = ended ∙ ap (λ (x : List ℕ). fields_from form seen x []) (drop-cons limits i 0 l) ∙ ap (λ (b : Bool). cond b (Ok seen) (Err (count_fault form))) (le-leb (needed_of form) (length seen) (omega arith))

      pub all_read : length limits ≤ i → here ≡ Ok seen
      all_read h = ended ∙ ap (λ (x : List ℕ). fields_from form seen x []) (drop_of_length-le limits h)

    -- A word is left.
    module _ (more : start < length content) where
      pub too_many : length limits ≤ i → here ≡ Err (count_fault form)
      too_many h =
          ap₂ (fields_from form seen) (drop_of_length-le limits h) (next_word content at start found inside more (start + length (before (is_mark Blank) (drop start content))) refl)

      module _ (l : i < length limits) (end : ℕ) (e : end ≡ start + length (before (is_mark Blank) (drop start content))) (answer : Result ℕ Fault)
          (read : answer ≡ word_of form i (get_or limits i 0) (take (end - start) (drop start content))) where
        abbrev on : Result ℕ Fault → Numbers
        on w = elim w [ Ok n ↦ fields_from form (seen ++ (n ∷ [])) (drop (i + 1) limits) (words (drop end content)) | Err fault ↦ Err fault ]

        step : here ≡ on answer
        step =
            ap₂ (fields_from form seen) (drop-cons limits i 0 l ∙ ap (λ (k : ℕ). get_or limits i 0 ∷ drop k limits) (sym (add-one i))) (next_word content at start found inside more end e)
            ∙ ap (λ (k : ℕ). on (word_of form k (get_or limits i 0) (take (end - start) (drop start content)))) long
            ∙ ap on (sym read)

        pub field-read : (n : ℕ) → answer ≡ Ok n → here ≡ fields_from form (seen ++ (n ∷ [])) (drop (i + 1) limits) (words (drop end content))
        field-read n f = step ∙ ap on f

        pub field-wrong : (fault : Fault) → answer ≡ Err fault → here ≡ Err fault
        field-wrong fault f = step ∙ ap on f
