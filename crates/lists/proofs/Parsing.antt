-- Laws of numbers, words and fields of a line, as a reader takes them one after the other. Assumes nothing.
use Prim.Native.Nat.{ℕ, suc, ◌+◌, ◌-◌, ◌*◌, ◌≤◌, ◌<◌, min}
use mathlib.Core.Path.{◌≡◌, refl, sym, ap, ap₂, ◌∙◌}
use mathlib.Core.Bool.{Bool, true, false, cond, not, ◌&&◌, false≢true}
use mathlib.Core.List.{List, [], ◌∷◌, ◌++◌, append_assoc, append-nil}
use native.Mathlib.Decide.{dec_le}
use native.Mathlib.Numerals.{add-one}
use native.Mathlib.Omega.{arith}
use lib.Dec.{leb}
use lib.ListN.{length, get_or, take, drop, length-drop, drop_of_length-le}
use lib.Seq.{drop-cons, drop-drop, get_or-drop}
use borrow.Author.Tests.{not-true, leb-true, lt-leb}
use Rattle.lists.specs.Decimals.{digit}
use Rattle.lists.specs.declared.fault.Fault.TheVariants.{NotANumber, TooLarge}
use Rattle.lists.specs.declared.words.Mark.TheVariants.{Blank, Word}
use Rattle.std.specs.Prelude.{Result, Ok, Err, Some, None, position, unwrap_or, nat_lt}
use Rattle.std.specs.List.{position_or_len}
use Rattle.std.proofs.lemmas.Grind.{common_steps}
use Rattle.lists.specs.declared.fault.Fault.{Fault}
use Rattle.lists.specs.Words.{is_blank, is_mark, is_digit, parts_from, parts, before, non_empty, words, all_digits, value_from}

-- ---- up to a byte

module _ (stop : ℕ → Bool) where
  -- It is the text's beginning.
  pub before-take : (text : List ℕ) → take (length (before stop text)) text ≡ before stop text
  before-take [] = refl
  before-take (byte ∷ text) = by (before-take text) (stop byte)
    where
      by : take (length (before stop text)) text ≡ before stop text → (b : Bool) → take (length (cond b [] (byte ∷ before stop text))) (byte ∷ text) ≡ cond b [] (byte ∷ before stop text)
      by h true = refl
      by h false = ap (λ (l : List ℕ). byte ∷ l) h

  before-short : (text : List ℕ) → length (before stop text) ≤ length text
  before-short [] = omega arith
  before-short (byte ∷ text) = by (before-short text) (stop byte)
    where
      by : length (before stop text) ≤ length text → (b : Bool) → length (cond b [] (byte ∷ before stop text)) ≤ suc (length text)
      by h true = omega arith
      by h false = omega arith

  -- Its length is the first place at which the test holds, or the length of the text.
  pub before-length : (text : List ℕ) → length (before stop text) ≡ position_or_len stop text
  before-length [] = refl
  before-length (byte ∷ text) = by (before-length text) (stop byte)
    where
      by : length (before stop text) ≡ position_or_len stop text → (b : Bool) → length (cond b [] (byte ∷ before stop text)) ≡ cond (not b) (1 + position_or_len stop text) 0
      by h true = refl
      by h false = omega arith

  pub before-position : (text : List ℕ) → unwrap_or (position stop text) (length text) ≡ length (before stop text)
  before-position text = by (nat_lt (position_or_len stop text) (length text)) refl
    where
      by : (b : Bool) → nat_lt (position_or_len stop text) (length text) ≡ b → unwrap_or (cond b (Some (position_or_len stop text)) None) (length text) ≡ length (before stop text)
      by true e = sym (before-length text)
      by false e = let past : length text ≤ position_or_len stop text = grind (arith, common_steps) in omega (arith, before-length text, before-short text)

  pub before-within : (text : List ℕ) (from : ℕ) → from ≤ length text → from + length (before stop (drop from text)) ≤ length text
  before-within text from h = omega (arith, before-short (drop from text), length-drop from text)

  -- The byte after it is one at which the test holds.
  before-stop : (text : List ℕ) → length (before stop text) < length text → stop (get_or text (length (before stop text)) 0) ≡ true
  before-stop [] h = absurd (omega arith)
  before-stop (byte ∷ text) h = by (before-stop text) (stop byte) refl h
    where
      by : (length (before stop text) < length text → stop (get_or text (length (before stop text)) 0) ≡ true) → (b : Bool) → stop byte ≡ b → length (cond b [] (byte ∷ before stop text)) < suc (length text)
          → stop (get_or (byte ∷ text) (length (cond b [] (byte ∷ before stop text))) 0) ≡ true
      by inner true e h = e
      by inner false e h = inner (omega arith)

-- ---- numbers

pub digit-range : (byte : ℕ) → is_digit byte ≡ true → (digit 0 ≤ byte) × (byte ≤ digit 9)
digit-range byte = by (leb (digit 0) byte) refl
  where
    by : (b : Bool) → leb (digit 0) byte ≡ b → b && leb byte (digit 9) ≡ true → (digit 0 ≤ byte) × (byte ≤ digit 9)
    by true e f = (leb-true (digit 0) byte e, leb-true byte (digit 9) f)
    by false e f = absurd (false≢true f)

-- A word after digits that stand for n, as a number of at most `limit`.
abbrev pub number_from : ℕ → ℕ → ℕ → ℕ → List ℕ → Result ℕ Fault
number_from place told limit n word = cond (all_digits word) (cond (leb (value_from n word) limit) (Ok (value_from n word)) (Err (TooLarge place told))) (Err (NotANumber place))

-- Past the limit it does not matter by how much.
value-capped : (limit a b : ℕ) → min a (limit + 1) ≡ min b (limit + 1) → (word : List ℕ) → min (value_from a word) (limit + 1) ≡ min (value_from b word) (limit + 1)
value-capped limit a b e [] = e
value-capped limit a b e (byte ∷ word) = value-capped limit (a * 10 + (byte - digit 0)) (b * 10 + (byte - digit 0)) (step (byte - digit 0)) word
  where
    step : (d : ℕ) → min (a * 10 + d) (limit + 1) ≡ min (b * 10 + d) (limit + 1)
    step d = omega arith

pub number-capped : (place told limit a b : ℕ) → min a (limit + 1) ≡ min b (limit + 1) → (word : List ℕ) → number_from place told limit a word ≡ number_from place told limit b word
number-capped place told limit a b e word = ap (λ (w : Result ℕ Fault). cond (all_digits word) w (Err (NotANumber place))) (by (value_from a word) (value_from b word) (value-capped limit a b e word))
  where
    by : (x y : ℕ) → min x (limit + 1) ≡ min y (limit + 1) → cond (leb x limit) (Ok x) (Err (TooLarge place told)) ≡ cond (leb y limit) (Ok y) (Err (TooLarge place told))
    by x y same = elim (dec_le x limit) [
      | yes l ↦ let f : x ≡ y = omega arith in ap (λ (z : ℕ). cond (leb z limit) (Ok z) (Err (TooLarge place told))) f
      | no l ↦ let m : limit < x = omega arith in let n : limit < y = omega arith in rw (lt-leb x limit m, lt-leb y limit n)
    ]

-- One byte on.
pub number-next : (place told limit n : ℕ) (word : List ℕ) (i : ℕ) → i < length word → is_digit (get_or word i 0) ≡ true
    → number_from place told limit n (drop i word) ≡ number_from place told limit (n * 10 + (get_or word i 0 - digit 0)) (drop (i + 1) word)
number-next place told limit n word i h e = rw (add-one i, drop-cons word i 0 h, e)

pub number-stop : (place told limit n : ℕ) (word : List ℕ) (i : ℕ) → i < length word → is_digit (get_or word i 0) ≡ false → number_from place told limit n (drop i word) ≡ Err (NotANumber place)
number-stop place told limit n word i h e = rw (drop-cons word i 0 h, e)

pub number-end : (place told limit n : ℕ) (word : List ℕ) (i : ℕ) → length word ≤ i → number_from place told limit n (drop i word) ≡ cond (leb n limit) (Ok n) (Err (TooLarge place told))
number-end place told limit n word i h = rw (drop_of_length-le word h)

-- ---- words

module _ (blank : ℕ → Bool) where
  abbrev words_by : List ℕ → List (List ℕ)
  words_by text = non_empty (parts blank text)

  -- Blanks before the first word.
  words-from : (text : List ℕ) → words_by text ≡ words_by (drop (length (before (λ byte. not (blank byte)) text)) text)
  words-from [] = refl
  words-from (byte ∷ text) = by (words-from text) (blank byte) refl
    where
      by : words_by text ≡ words_by (drop (length (before (λ z. not (blank z)) text)) text) → (b : Bool) → blank byte ≡ b → words_by (byte ∷ text) ≡ words_by (drop (length (cond (not b) [] (byte ∷ before (λ z. not (blank z)) text))) (byte ∷ text))
      by h true e = rw e h
      by h false e = refl

  -- The word that has begun, and those after it.
  words-next : (first : ℕ) (part text : List ℕ)
      → non_empty (parts_from blank (first ∷ part) text) ≡ ((first ∷ part) ++ before blank text) ∷ words_by (drop (length (before blank text)) text)
  words-next first part [] = ap (λ (l : List ℕ). l ∷ []) (sym (append-nil (first ∷ part)))
  words-next first part (byte ∷ text) = by (words-next first (part ++ (byte ∷ [])) text) (blank byte) refl
    where
      by : non_empty (parts_from blank (first ∷ (part ++ (byte ∷ []))) text)
          ≡ ((first ∷ (part ++ (byte ∷ []))) ++ before blank text) ∷ words_by (drop (length (before blank text)) text)
          → (b : Bool) → blank byte ≡ b
          → non_empty (cond b ((first ∷ part) ∷ parts blank text) (parts_from blank ((first ∷ part) ++ (byte ∷ [])) text))
          ≡ ((first ∷ part) ++ cond b [] (byte ∷ before blank text)) ∷ words_by (drop (length (cond b [] (byte ∷ before blank text))) (byte ∷ text))
      by h true e = rw (e, append-nil)
      by h false e = h ∙ rw append_assoc

  words-one : (byte : ℕ) (text : List ℕ) → blank byte ≡ false
      → words_by (byte ∷ text) ≡ before blank (byte ∷ text) ∷ words_by (drop (length (before blank (byte ∷ text))) (byte ∷ text))
  words-one byte text e = rw e (words-next byte [] text)

-- ---- fields

-- The first word from place `at` on starts at `start`, or there is none.
module _ (content : List ℕ) (at start : ℕ) (found : start ≡ at + length (before (is_mark Word) (drop at content))) where
  skipped : words (drop at content) ≡ words (drop start content)
  skipped =
      words-from is_blank (drop at content)
      ∙ ap words (drop-drop (length (before (is_mark Word) (drop at content))) at content ∙ ap (λ (k : ℕ). drop k content) (sym found))

  pub no_word : length content ≤ start → words (drop at content) ≡ []
  no_word h = skipped ∙ ap words (drop_of_length-le content h)

  pub next_word : at ≤ length content → start < length content → (end : ℕ) → end ≡ start + length (before (is_mark Blank) (drop start content))
      → words (drop at content) ≡ take (end - start) (drop start content) ∷ words (drop end content)
  next_word room h end e =
      let long = length (before (is_mark Blank) (drop start content)) in
      let size : end - start ≡ long = omega arith in
      skipped ∙ ap words (drop-cons content start 0 h)
      ∙ words-one is_blank (get_or content start 0) (drop (suc start) content) letter
      ∙ ap₂ (λ (w : List ℕ) (r : List (List ℕ)). w ∷ r)
      (ap (before is_blank) (sym (drop-cons content start 0 h)) ∙ sym (before-take is_blank (drop start content)) ∙ ap (λ (k : ℕ). take k (drop start content)) (sym size))
      (ap (λ (l : List ℕ). words (drop (length (before is_blank l)) l)) (sym (drop-cons content start 0 h))
      ∙ ap words (drop-drop long start content ∙ ap (λ (k : ℕ). drop k content) (sym e)))
    where
      letter : is_blank (get_or content start 0) ≡ false
      letter =
          let n = length (before (is_mark Word) (drop at content)) in
          let inside : n < length (drop at content) = simp length-drop (omega arith) in
          let e : not (is_blank (get_or (drop at content) n 0)) ≡ true = before-stop (is_mark Word) (drop at content) inside in
          ap is_blank (ap (λ (k : ℕ). get_or content k 0) found ∙ sym (get_or-drop at content n 0)) ∙ not-true (is_blank (get_or (drop at content) n 0)) e
