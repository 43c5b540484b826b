-- Texts of rows: one row of numbers per line, blanks between, `#` starts a comment. A job list has rows `id cost period deadline delay`, of
-- which a delay of 0 may be left out, and may say its range in one line `quanta low high`; a configuration has rows `id level policy
-- quantum`, with a policy's name or number, and a number after them, as a key has its bound there, is let by, and so is
-- the last line of a key; kernel records have rows `id policy priority quantum`, with the name of a policy. Assumes nothing.
use Rattle.std.specs.Prelude.{ℕ, ◌+◌, Bool, false, cond, List, [], ◌∷◌, ◌++◌, leb, ltb, eqb, length, get_or, drop, take, Result, Ok, Err}
use Rattle.std.specs.Prelude.{Option as Maybe, Some, None}
use Rattle.std.proofs.Math.Option.{Option, none, some}
use Rattle.records.specs.Limits.{most_jobs, longest_period, longest_deadline, longest_quantum}
use Rattle.configuration.specs.Settings.{round_robin}
use Rattle.same_bytes.specs.Same.{same_bytes}
use Rattle.lists.specs.declared.fault.Fault.{Fault}
use Rattle.lists.specs.declared.fault.Fault.TheVariants.{NotAPolicy, NotAPolicyName, LoneReturn, JobWords, SettingWords, KernelWords, RangeWords, TooMany, SecondRange}
use Rattle.lists.specs.declared.words.Mark.TheVariants.{Comment, Return}
use Rattle.lists.specs.declared.fields.Form.{Form}
use Rattle.lists.specs.declared.fields.Form.TheVariants.{Job, Setting, Kernel, Quanta}
use Rattle.lists.specs.declared.fields.Row.{Row}
use Rattle.lists.specs.declared.rows.Line.{Line}
use Rattle.lists.specs.declared.rows.Line.TheVariants.{Skipped, Found, RangeOf}
use Rattle.lists.specs.declared.rows.SaidRange.{SaidRange}
use Rattle.lists.specs.declared.rows.FaultyLine.{FaultyLine}
use Rattle.lists.specs.declared.rows.RowsRead.{RowsRead}
use Rattle.lists.specs.Words.{is_mark, before, lines, words, number_of}

-- ---- the fields of a line

-- The largest numbers of a row, field by field.
abbrev pub limits_of : Form → List ℕ
limits_of Job = 255 ∷ 65535 ∷ 65535 ∷ 65535 ∷ 255 ∷ []
limits_of Setting = 255 ∷ 255 ∷ 255 ∷ 255 ∷ 65535 ∷ []
limits_of Kernel = 255 ∷ 255 ∷ 255 ∷ 255 ∷ []
limits_of Quanta = 255 ∷ 255 ∷ []

-- How many fields there have to be.
abbrev pub needed_of : Form → ℕ
needed_of Job = 4
needed_of Setting = 4
needed_of Kernel = 4
needed_of Quanta = 2

-- What is wrong where there are fewer, or more than there are fields.
abbrev pub count_fault : Form → Fault
count_fault Job = JobWords
count_fault Setting = SettingWords
count_fault Kernel = KernelWords
count_fault Quanta = RangeWords

-- The place of field i among the words of its line, counted from 1: before a range stands its word.
abbrev pub place_of : Form → ℕ → ℕ
place_of Job i = i + 1
place_of Setting i = i + 1
place_of Kernel i = i + 1
place_of Quanta i = i + 2

-- The limits that are told of larger numbers: those of an accepted job, setting, kernel record or range, where a record could hold more.
abbrev pub told_of : Form → List ℕ
told_of Job = 255 ∷ longest_period ∷ longest_period ∷ longest_deadline ∷ 255 ∷ []
told_of Setting = 255 ∷ most_jobs ∷ round_robin ∷ longest_quantum ∷ 65535 ∷ []
told_of Kernel = 255 ∷ 0 ∷ 255 ∷ longest_quantum ∷ 0 ∷ []
told_of Quanta = longest_quantum ∷ longest_quantum ∷ 0 ∷ 0 ∷ 0 ∷ []

-- A setting's policy may have its name.
abbrev pub is_named : Form → ℕ → Bool
is_named Job i = false
is_named Setting i = eqb i 2
is_named Kernel i = false
is_named Quanta i = false

-- A kernel record's policy has its name alone. A line of a configuration has a level there, which is a number, so that neither is read as
-- the other.
abbrev pub is_name_only : Form → ℕ → Bool
is_name_only Job i = false
is_name_only Setting i = false
is_name_only Kernel i = eqb i 1
is_name_only Quanta i = false

-- `none`, `fifo` and `rr`.
abbrev pub none_name : List ℕ
none_name = 110 ∷ 111 ∷ 110 ∷ 101 ∷ []

abbrev pub fifo_name : List ℕ
fifo_name = 102 ∷ 105 ∷ 102 ∷ 111 ∷ []

abbrev pub round_robin_name : List ℕ
round_robin_name = 114 ∷ 114 ∷ []

-- The number of a placed job's policy, by its name; a kernel record's policy is one of these.
unfoldable pub policy_named : List ℕ → Result ℕ Fault
policy_named word = cond (same_bytes word fifo_name) (Ok 1) (cond (same_bytes word round_robin_name) (Ok 2) (Err NotAPolicyName))

-- A setting's policy: its number by its name, or the number that the word is.
abbrev pub number_only : Result ℕ Fault → Result ℕ Fault
number_only (Ok n) = Ok n
number_only (Err fault) = Err NotAPolicy

abbrev pub named_or : Result ℕ Fault → Result ℕ Fault → Result ℕ Fault
named_or (Ok n) other = Ok n
named_or (Err fault) other = number_only other

unfoldable pub policy_or : List ℕ → Result ℕ Fault → Result ℕ Fault
policy_or word other = cond (same_bytes word none_name) (Ok 0) (named_or (policy_named word) other)

-- The word of field i.
unfoldable pub word_of : Form → ℕ → ℕ → List ℕ → Result ℕ Fault
word_of form i limit word =
    let number = number_of (place_of form i) (get_or (told_of form) i 0) limit word in
    cond (is_name_only form i) (policy_named word) (cond (is_named form i) (policy_or word number) number)

-- The numbers of a line, or what is wrong with it.
abbrev pub Numbers : Type 0
Numbers = Result (List ℕ) Fault

-- The words of the fields that have these limits, `seen` being the numbers of the fields before them. The first faulty word decides, then
-- the number of words.
abbrev pub fields_from : Form → List ℕ → List ℕ → List (List ℕ) → Numbers
fields_from form seen [] [] = Ok seen
fields_from form seen [] (word ∷ rest) = Err (count_fault form)
fields_from form seen (limit ∷ limits) [] = cond (leb (needed_of form) (length seen)) (Ok seen) (Err (count_fault form))
fields_from form seen (limit ∷ limits) (word ∷ rest) =
    elim (word_of form (length seen) limit word) [ Ok n ↦ fields_from form (seen ++ (n ∷ [])) limits rest | Err fault ↦ Err fault ]

abbrev pub read_fields : Form → List (List ℕ) → Numbers
read_fields form rest = fields_from form [] (limits_of form) rest

-- A row of at most five numbers; those that are missing are 0.
abbrev pub row_of : List ℕ → Row
row_of n = record { first = get_or n 0 0; second = get_or n 1 0; third = get_or n 2 0; fourth = get_or n 3 0; fifth = get_or n 4 0 }

-- What read_fields answers.
abbrev pub row_answer : Numbers → Result Row Fault
row_answer (Ok n) = Ok (row_of n)
row_answer (Err fault) = Err fault

-- ---- a line

-- `quanta`: the first word of a line that says the range of a list.
abbrev pub quanta_word : List ℕ
quanta_word = 113 ∷ 117 ∷ 97 ∷ 110 ∷ 116 ∷ 97 ∷ []

-- Only a list says its range.
abbrev pub says_range : Form → List ℕ → Bool
says_range Job word = same_bytes word quanta_word
says_range Setting word = false
says_range Kernel word = false
says_range Quanta word = false

-- `placed`: the first word of a key's last line, which is passed over in a configuration, so that a key is one.
abbrev pub placed_word : List ℕ
placed_word = 112 ∷ 108 ∷ 97 ∷ 99 ∷ 101 ∷ 100 ∷ []

abbrev pub says_placed : Form → List ℕ → Bool
says_placed Job word = false
says_placed Setting word = same_bytes word placed_word
says_placed Kernel word = false
says_placed Quanta word = false

-- What a line of fields holds.
abbrev pub row_line : Result Row Fault → Result Line Fault
row_line (Ok row) = Ok (Found row)
row_line (Err fault) = Err fault

abbrev pub range_line : Result Row Fault → Result Line Fault
range_line (Ok row) = Ok (RangeOf (record { low = row.first; high = row.second }))
range_line (Err fault) = Err fault

-- A line of these words: without words it is skipped, and so is the last line of a key.
abbrev pub words_line : Form → List (List ℕ) → Result Line Fault
words_line form [] = Ok Skipped
words_line form (word ∷ rest) =
    cond (says_range form word) (range_line (row_answer (read_fields Quanta rest)))
    (cond (says_placed form word) (Ok Skipped) (row_line (row_answer (read_fields form (word ∷ rest)))))

-- A line without carriage returns: from `#` on it is a comment.
unfoldable pub plain_line : Form → List ℕ → Result Line Fault
plain_line form line = words_line form (words (before (is_mark Comment) line))

-- A carriage return stands before the last byte. At the end of a line it is part of a line end of two bytes; within one it would join what
-- a person sees as two lines, so that a comment would hide the second.
abbrev pub lone_return : List ℕ → Bool
lone_return line = ltb (length (before (is_mark Return) line) + 1) (length line)

unfoldable pub read_line : Form → List ℕ → Result Line Fault
read_line form line = cond (lone_return line) (Err LoneReturn) (plain_line form line)

-- ---- a text

-- What was read: the rows, each with the number of its line, counted from 1; and the range, where one is said.
pub record Rows : Type 0 where
  pub rows : List Row
  pub at : List ℕ
  pub range : Option (ℕ × ℕ)

-- What reading comes to: values of type A, or the first faulty line and what is wrong with it.
pub data Reading (A : Type 0) : Type 0 where
  given : A → Reading A
  faulty : ℕ → Fault → Reading A

-- One line more, with its number: the first faulty line counts.
abbrev pub with_row : ℕ → Row → Rows → Reading Rows
with_row number row r =
    cond (ltb (length r.rows) most_jobs)
    (given (record { rows = r.rows ++ (row ∷ []); at = r.at ++ (number ∷ []); range = r.range }))
    (faulty number TooMany)

abbrev pub with_range : ℕ → ℕ → ℕ → Rows → Reading Rows
with_range number low high r = elim r.range [
  | none ↦ given (record { rows = r.rows; at = r.at; range = some (low, high) })
  | some range ↦ faulty number SecondRange
]

abbrev pub with_line : ℕ → Result Line Fault → Reading Rows → Reading Rows
with_line number line (faulty earlier fault) = faulty earlier fault
with_line number (Err fault) (given r) = faulty number fault
with_line number (Ok Skipped) (given r) = given r
with_line number (Ok (RangeOf range)) (given r) = with_range number range.low range.high r
with_line number (Ok (Found row)) (given r) = with_row number row r

-- The lines of a text one after the other, the first of them being line `number`.
abbrev pub read_lines : Form → ℕ → Reading Rows → List (List ℕ) → Reading Rows
read_lines form number reading [] = reading
read_lines form number reading (line ∷ rest) = read_lines form (number + 1) (with_line number (read_line form line) reading) rest

-- The mark that some programs put before a text in UTF-8.
abbrev pub mark_size : List ℕ → ℕ
mark_size text = cond (same_bytes (take 3 text) (239 ∷ 187 ∷ 191 ∷ [])) 3 0

abbrev pub no_rows : Rows
no_rows = record { rows = []; at = []; range = none }

unfoldable pub read_text : Form → List ℕ → Reading Rows
read_text form text = read_lines form 1 (given no_rows) (lines (drop (mark_size text) text))

-- ---- what the reader answers

-- The range that a text says, where it says one.
abbrev pub range_of : Maybe SaidRange → Option (ℕ × ℕ)
range_of None = none
range_of (Some range) = some (range.low, range.high)

-- The rows that the first entries of its tables hold, and the range where it says one.
abbrev pub rows_in : RowsRead → Rows
rows_in r = record { rows = take r.count r.rows; at = take r.count r.at; range = range_of r.range }

abbrev pub rows_outcome : Result RowsRead FaultyLine → Reading Rows
rows_outcome (Ok r) = given (rows_in r)
rows_outcome (Err f) = faulty f.line f.fault

-- What was read once line `number` is taken too, where it isn't faulty.
abbrev pub line_outcome : {A : Type 0} → ℕ → RowsRead → Result A Fault → Reading Rows
line_outcome number r (Ok done) = given (rows_in r)
line_outcome number r (Err fault) = faulty number fault
