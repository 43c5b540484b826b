-- Text as bytes of ASCII that is written by templates, and what a function leaves that writes text to a buffer. Assumes nothing.
use Rattle.std.specs.Prelude.{ℕ, zero, suc, ◌+◌, ◌*◌, ◌≤◌, ◌<◌, ◌≡◌, cond, List, [], ◌∷◌, ◌++◌, eqb, length, get_or, drop}
use Rattle.std.proofs.lemmas.List.Edits.{sets}
use Rattle.lists.specs.Decimals.{decimal}
use Rattle.lists.specs.Words.{is_mark, before}
use Rattle.lists.specs.declared.words.Mark.TheVariants.{LineEnd}

-- The rows below n, one after the other.
abbrev pub rows_to : (ℕ → List ℕ) → ℕ → List ℕ
rows_to row zero = []
rows_to row (suc i) = rows_to row i ++ row i

-- ---- templates

-- What stands for a byte of a template: the number for a `%`, and else the byte.
abbrev pub piece : ℕ → ℕ → List ℕ
piece byte number = cond (eqb byte 37) (decimal number) (byte ∷ [])

-- How many numbers are used up after the byte.
abbrev pub used_after : ℕ → ℕ → ℕ
used_after byte used = cond (eqb byte 37) (used + 1) used

-- A text in which each `%` of the template stands for the next of the numbers: what is `done`, and the rest with the numbers from place
-- `used` on.
abbrev pub filled_from : List ℕ → List ℕ → List ℕ → ℕ → List ℕ
filled_from numbers done [] used = done
filled_from numbers done (byte ∷ template) used = filled_from numbers (done ++ piece byte (get_or numbers used 0)) template (used_after byte used)

unfoldable pub filled : List ℕ → List ℕ → List ℕ
filled template numbers = filled_from numbers [] template 0

-- ---- templates that are the lines of a text

-- The text after its first k lines.
abbrev pub after_lines : ℕ → List ℕ → List ℕ
after_lines zero text = text
after_lines (suc k) text = after_lines k (drop (length (before (is_mark LineEnd) text) + 1) text)

-- Line k of a text, counted from 0, without its line feed; nothing past the last line.
unfoldable pub line_of : List ℕ → ℕ → List ℕ
line_of text k = before (is_mark LineEnd) (after_lines k text)

-- ---- what is written

-- Text of at most `limit` bytes is written from `at` on, r is the place after it, and the rest of the buffer stays.
pub record Wrote (limit : ℕ) (old new : List ℕ) (at r : ℕ) (text : List ℕ) : Type 0 where
  pub next : r ≡ at + length text
  pub short : length text ≤ limit
  pub bytes : new ≡ sets old at text

-- A filled template is written from `at` on, where there are ten bytes for each byte of it, since a number has at most ten digits; else
-- nothing is.
pub record Templated (template numbers old new : List ℕ) (at r : ℕ) : Type 0 where
  pub wrote : at + 10 * length template ≤ length old → Wrote (10 * length template) old new at r (filled template numbers)
  pub stays : length old < at + 10 * length template → (r ≡ at) × (new ≡ old)
