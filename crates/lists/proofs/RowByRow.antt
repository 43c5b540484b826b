-- Laws of the lines of a text, as a reader takes them one after the other. Assumes nothing.
use Prim.Native.Nat.{ℕ, suc, ◌+◌, ◌-◌, ◌≤◌, ◌<◌}
use mathlib.Core.Path.{◌≡◌, refl, sym, ap, ap₂, ◌∙◌}
use mathlib.Core.Bool.{Bool, true, false, cond, not, ◌&&◌}
use mathlib.Core.List.{List, [], ◌∷◌, ◌++◌, map, append_assoc, append-nil}
use native.Mathlib.Numerals.{add-one}
use native.Mathlib.Omega.{arith}
use lib.ListN.{length, length-append, take, drop, set, length-take, length-map, drop_of_length-le}
use lib.Seq.{take_all, take_at, length-take-le, take-suc-set}
use borrow.Author.Tests.{lt-ltb, le-ltb}
use Rattle.records.specs.Limits.{most_jobs}
use Rattle.sets.specs.Places.{every}
use Rattle.sets.proofs.Members.{eqb_swap}
use Rattle.same_bytes.specs.Same.{same_bytes}
use Rattle.std.specs.Bool.{MatchBool}
use Rattle.std.specs.List.{starts_with, IsFirstMatchOrLen}
use Rattle.std.proofs.lemmas.List.Sums.{prefix_len_is}
use lib.Dec.{eqb}
use Rattle.lists.specs.declared.fault.Fault.{Fault}
use Rattle.lists.specs.declared.fault.Fault.TheVariants.{TooMany}
use Rattle.lists.specs.declared.words.Mark.TheVariants.{Blank, Word, LineEnd}
use Rattle.lists.specs.declared.fields.Form.{Form}
use Rattle.lists.specs.declared.fields.Form.TheVariants.{Quanta}
use Rattle.lists.specs.declared.fields.Row.{Row}
use Rattle.lists.specs.declared.rows.Line.TheVariants.{Skipped}
use Rattle.std.specs.Prelude.{Ok}
use Rattle.lists.specs.declared.rows.RowsRead.{RowsRead}
use Rattle.lists.specs.Words.{is_mark, parts_from, parts, before, lines, words}
use Rattle.lists.specs.Rows.{says_range, says_placed, row_line, range_line, row_answer, read_fields, words_line, plain_line, read_line, Rows, Reading, given, faulty, with_row, with_line, read_lines, range_of, rows_in}
use Rattle.lists.proofs.Parsing.{before-take, before-length, no_word, next_word}

-- The length of a table of structs, whose entries the checker sees through a map.
pub unmapped : (X Y : Type 0) (f : X → Y) (l : List X) (n : ℕ) → length (map f l) ≡ n → length l ≡ n
unmapped X Y f l n e = sym (length-map l f) ∙ e

-- ---- a line by its first word

module _ (form : Form) (content : List ℕ) (start : ℕ) (found : start ≡ 0 + length (before (is_mark Word) (drop 0 content))) where
  pub line-empty : length content ≤ start → words_line form (words content) ≡ Ok Skipped
  line-empty h = ap (words_line form) (no_word content 0 start found h)

  module _ (more : start < length content) (end : ℕ) (e : end ≡ start + length (before (is_mark Blank) (drop start content))) where
    abbrev word : List ℕ
    word = take (end - start) (drop start content)

    first_word : words content ≡ word ∷ words (drop end content)
    first_word = next_word content 0 start found (omega arith) more end e

    pub line-range : says_range form word ≡ true → words_line form (words content) ≡ range_line (row_answer (read_fields Quanta (words (drop end content))))
    line-range h = ap (words_line form) first_word ∙ rw h

    pub line-placed : says_range form word ≡ false → says_placed form word ≡ true → words_line form (words content) ≡ Ok Skipped
    line-placed h k = ap (words_line form) first_word ∙ rw (h, k)

    pub line_row : says_range form word ≡ false → says_placed form word ≡ false → words_line form (words content) ≡ row_line (row_answer (read_fields form (words content)))
    line_row h k = ap (words_line form) first_word ∙ rw (h, k) (ap (λ (w : List (List ℕ)). row_line (row_answer (read_fields form w))) (sym first_word))

-- ---- one line more

module _ (read : RowsRead) (number : ℕ) (rows-size : length read.rows ≡ most_jobs) (at_size : length read.at ≡ most_jobs) where
  pub row_fits : read.count < most_jobs → (row : Row) → ◌≡◌ {A = Reading Rows}
      (given (record { rows = take (read.count + 1) (set read.rows read.count row); at = take (read.count + 1) (set read.at read.count number); range = range_of read.range }))
      (with_row number row (rows_in read))
  row_fits h row =
      let size : length (take read.count read.rows) ≡ read.count = length-take-le read.count read.rows (omega arith) in
      ap₂ (λ (r : List Row) (a : List ℕ). given (record { rows = r; at = a; range = range_of read.range }))
      (ap (λ (k : ℕ). take k (set read.rows read.count row)) (add-one read.count) ∙ take-suc-set read.rows read.count row (omega arith))
      (ap (λ (k : ℕ). take k (set read.at read.count number)) (add-one read.count) ∙ take-suc-set read.at read.count number (omega arith))
      ∙ sym (rw (lt-ltb (length (take read.count read.rows)) most_jobs (omega arith)))

  pub row-over : most_jobs ≤ read.count → (row : Row) → faulty number TooMany ≡ with_row number row (rows_in read)
  row-over h row =
      let size = length-take read.count read.rows in
      sym (rw (le-ltb (length (take read.count read.rows)) most_jobs (omega arith)))

-- ---- all lines

-- A fault stays.
pub fault-stays : (form : Form) (number earlier : ℕ) (fault : Fault) (text : List (List ℕ)) → read_lines form number (faulty earlier fault) text ≡ faulty earlier fault
fault-stays form number earlier fault [] = refl
fault-stays form number earlier fault (line ∷ rest) = fault-stays form (number + 1) earlier fault rest

pub line-skipped : (number : ℕ) (reading : Reading Rows) → with_line number (Ok Skipped) reading ≡ reading
line-skipped number (given r) = refl
line-skipped number (faulty earlier fault) = refl

module _ (form : Form) (feed : ℕ → Bool) where
  lines_from : (number : ℕ) (reading : Reading Rows) (part text : List ℕ)
      → read_lines form number reading (parts_from feed part text)
      ≡ read_lines form (number + 1) (with_line number (read_line form (part ++ before feed text)) reading) (parts feed (drop (suc (length (before feed text))) text))
  unfolding read_line plain_line
  lines_from number reading part [] = rw append-nil (sym (line-skipped (number + 1) (with_line number (read_line form part) reading)))
  lines_from number reading part (byte ∷ text) = by (lines_from number reading (part ++ (byte ∷ [])) text) (feed byte)
    where
      by : read_lines form number reading (parts_from feed (part ++ (byte ∷ [])) text)
          ≡ read_lines form (number + 1) (with_line number (read_line form ((part ++ (byte ∷ [])) ++ before feed text)) reading) (parts feed (drop (suc (length (before feed text))) text))
          → (b : Bool) → read_lines form number reading (cond b (part ∷ parts feed text) (parts_from feed (part ++ (byte ∷ [])) text))
          ≡ read_lines form (number + 1) (with_line number (read_line form (part ++ cond b [] (byte ∷ before feed text))) reading)
          (parts feed (drop (suc (length (cond b [] (byte ∷ before feed text)))) (byte ∷ text)))
      by h true = rw append-nil
      by h false = h ∙ rw append_assoc

-- The lines of what is left of a text, where there is one.
abbrev pub lines_left : Bool → List ℕ → List (List ℕ)
lines_left done rest = cond done [] (lines rest)

-- Past the last byte there is nothing.
pub lines_end : (form : Form) (text : List ℕ) (at number : ℕ) (reading : Reading Rows) → length text ≤ at → read_lines form number reading (lines (drop at text)) ≡ reading
unfolding read_line plain_line
lines_end form text at number reading h = rw (drop_of_length-le text h) (line-skipped number reading)

-- ---- the parts that `split` gives

-- The part that ends where the test first holds is what stands before that place.
part-before : (stop : ℕ → Bool) (rest line : List ℕ) → take (length line) rest ≡ line → length line ≤ length rest → IsFirstMatchOrLen stop rest (length line) → before stop rest ≡ line
part-before stop rest line e l first =
    let size : length (before stop rest) ≡ length line =
    before-length stop rest
    ∙ prefix_len_is (λ x. not (stop x)) rest (length line) 0 l (λ k h. ap not (first.0 k 0 (omega arith) h)) (λ h. ap not (first.1 h 0))
    in
    sym (before-take stop rest) ∙ ap (λ (k : ℕ). take k rest) size ∙ e

-- One part on.
pub part-next : (form : Form) (number : ℕ) (reading : Reading Rows) (rest line after : List ℕ) (done : Bool) → IsFirstMatchOrLen (is_mark LineEnd) rest (length line)
    → MatchBool done (rest ≡ line) ((y : ℕ) × (rest ≡ line ++ (y ∷ after)))
    → read_lines form number reading (lines rest) ≡ read_lines form (number + 1) (with_line number (read_line form line) reading) (lines_left done after)
part-next form number reading rest line after true first e =
    let stands = part-before (is_mark LineEnd) rest line (ap (take (length line)) e ∙ take_all (length line) line (omega arith)) (omega (arith, ap length e)) first in
    lines_from form (is_mark LineEnd) number reading [] rest
    ∙ ap (λ (l : List ℕ). read_lines form (number + 1) (with_line number (read_line form l) reading) (lines (drop (suc (length l)) rest))) stands
    ∙ lines_end form rest (suc (length line)) (number + 1) (with_line number (read_line form line) reading) (omega (arith, ap length e))
part-next form number reading rest line after false first (y, e) =
    let long = ap length e ∙ length-append line (y ∷ after) in
    let stands = part-before (is_mark LineEnd) rest line (ap (take (length line)) e ∙ take_at line (y ∷ after) (length line) refl) (omega (arith, long)) first in
    lines_from form (is_mark LineEnd) number reading [] rest
    ∙ ap (λ (l : List ℕ). read_lines form (number + 1) (with_line number (read_line form l) reading) (lines (drop (suc (length l)) rest))) stands
    ∙ ap (λ (l : List ℕ). read_lines form (number + 1) (with_line number (read_line form line) reading) (lines l)) (ap (drop (suc (length line))) e ∙ past line)
  where
    past : (l : List ℕ) → drop (suc (length l)) (l ++ (y ∷ after)) ≡ after
    past [] = refl
    past (x ∷ l) = past l

-- What is left then is shorter.
pub left-less : (rest line after : List ℕ) (done : Bool) → MatchBool done (rest ≡ line) ((y : ℕ) × (rest ≡ line ++ (y ∷ after))) → cond done 0 (length after + 1) ≤ length rest
left-less rest line after true e = omega arith
left-less rest line after false (y, e) = omega (arith, ap length e ∙ length-append line (y ∷ after))

-- ---- the mark before a text

pub mark-begins : (text : List ℕ) → starts_with eqb text (239 ∷ 187 ∷ 191 ∷ []) ≡ same_bytes (take 3 text) (239 ∷ 187 ∷ 191 ∷ [])
unfolding same_bytes every
mark-begins [] = refl
mark-begins (x ∷ []) = none (eqb 239 x)
  where
    none : (b : Bool) → b && false ≡ false
    none true = refl
    none false = refl
mark-begins (x ∷ y ∷ []) = none (eqb 239 x) (eqb 187 y)
  where
    none : (a b : Bool) → a && (b && false) ≡ false
    none true true = refl
    none true false = refl
    none false b = refl
mark-begins (x ∷ y ∷ z ∷ text) = all (eqb 239 x) (eqb 187 y) (eqb 191 z) (eqb_swap 239 x) (eqb_swap 187 y) (eqb_swap 191 z)
  where
    all : (a b c : Bool) {d e f : Bool} → a ≡ d → b ≡ e → c ≡ f → a && (b && (c && true)) ≡ (((true && d) && e) && f)
    all true true true p q r = rw (sym p, sym q, sym r) refl
    all true true false p q r = rw (sym p, sym q, sym r) refl
    all true false c p q r = rw (sym p, sym q) refl
    all false b c p q r = rw (sym p) refl
