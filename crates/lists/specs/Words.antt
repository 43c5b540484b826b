-- Texts: their bytes, lines, words and numbers. Assumes nothing.
use Rattle.std.specs.Prelude.{ℕ, ◌+◌, ◌-◌, ◌*◌, Bool, true, cond, not, ◌&&◌, ◌||◌, List, [], ◌∷◌, ◌++◌, leb, eqb, Result, Ok, Err}
use Rattle.lists.specs.Decimals.{space, line_feed, digit}
use Rattle.lists.specs.declared.fault.Fault.{Fault}
use Rattle.lists.specs.declared.fault.Fault.TheVariants.{NotANumber, TooLarge}
use Rattle.lists.specs.declared.words.Mark.{Mark}
use Rattle.lists.specs.declared.words.Mark.TheVariants.{LineEnd, Comment, Return, Hyphen, Blank, Word}

-- ---- bytes

abbrev pub tab : ℕ
tab = 9

abbrev pub carriage_return : ℕ
carriage_return = 13

abbrev pub number_sign : ℕ
number_sign = 35

abbrev pub hyphen : ℕ
hyphen = 45

-- The byte stands between words.
abbrev pub is_blank : ℕ → Bool
is_blank byte = eqb byte space || (eqb byte tab || eqb byte carriage_return)

-- The byte ends a line, starts a comment, is a carriage return or a hyphen, stands between words, or belongs to a word.
abbrev pub is_mark : Mark → ℕ → Bool
is_mark LineEnd byte = eqb byte line_feed
is_mark Comment byte = eqb byte number_sign
is_mark Return byte = eqb byte carriage_return
is_mark Hyphen byte = eqb byte hyphen
is_mark Blank byte = is_blank byte
is_mark Word byte = not (is_blank byte)

abbrev pub is_digit : ℕ → Bool
is_digit byte = leb (digit 0) byte && leb byte (digit 9)

-- ---- lines and words

-- The parts of a text between the bytes at which the test holds, empty ones too; `part` has the bytes of the first part that stand
-- before the text.
abbrev pub parts_from : (ℕ → Bool) → List ℕ → List ℕ → List (List ℕ)
parts_from between part [] = part ∷ []
parts_from between part (byte ∷ text) = cond (between byte) (part ∷ parts_from between [] text) (parts_from between (part ++ (byte ∷ [])) text)

abbrev pub parts : (ℕ → Bool) → List ℕ → List (List ℕ)
parts between text = parts_from between [] text

-- The text before the first byte at which the test holds, or all of it.
abbrev pub before : (ℕ → Bool) → List ℕ → List ℕ
before stop [] = []
before stop (byte ∷ text) = cond (stop byte) [] (byte ∷ before stop text)

-- The parts that have a byte.
abbrev pub non_empty : List (List ℕ) → List (List ℕ)
non_empty [] = []
non_empty ([] ∷ rest) = non_empty rest
non_empty ((byte ∷ part) ∷ rest) = (byte ∷ part) ∷ non_empty rest

-- The lines of a text: a last line may lack its line feed, and after a last line feed an empty line stands.
abbrev pub lines : List ℕ → List (List ℕ)
lines text = parts (is_mark LineEnd) text

-- The words of a line: the longest runs of bytes that are not blank.
abbrev pub words : List ℕ → List (List ℕ)
words content = non_empty (parts (is_mark Blank) content)

-- ---- numbers

-- Each byte is a digit.
abbrev pub all_digits : List ℕ → Bool
all_digits [] = true
all_digits (byte ∷ word) = is_digit byte && all_digits word

-- The number that decimal digits stand for, n being that of the digits before them.
abbrev pub value_from : ℕ → List ℕ → ℕ
value_from n [] = n
value_from n (byte ∷ word) = value_from (n * 10 + (byte - digit 0)) word

-- A word as a number of at most `limit`: its bytes are digits, and what they stand for is not too large. `place` is the word's in its
-- line, counted from 1, and `told` the limit that is told of a number that is too large.
unfoldable pub number_of : ℕ → ℕ → ℕ → List ℕ → Result ℕ Fault
number_of place told limit word = cond (all_digits word) (cond (leb (value_from 0 word) limit) (Ok (value_from 0 word)) (Err (TooLarge place told))) (Err (NotANumber place))
