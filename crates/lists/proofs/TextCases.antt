-- Texts read by computation: one table, one statement. Assumes nothing.
use Prim.Native.Nat.{ℕ}
use mathlib.Core.Path.{◌≡◌, refl}
use mathlib.Core.List.{List, [], ◌∷◌, map}
use mathlib.Core.Option.{Option, none, some}
use Rattle.sets.specs.Places.{every}
use Rattle.same_bytes.specs.Same.{same_bytes}
use Rattle.lists.specs.declared.fault.Fault.TheVariants.{NotANumber, TooLarge, NotAPolicy, NotAPolicyName, LoneReturn, JobWords, SettingWords, KernelWords, RangeWords, TooMany, SecondRange}
use Rattle.lists.specs.declared.fields.Form.{Form}
use Rattle.lists.specs.declared.fields.Form.TheVariants.{Job as JobForm, Setting as SettingForm, Kernel as KernelForm}
use Rattle.lists.specs.declared.fields.Row.{Row}
use Rattle.lists.specs.Words.{number_of}
use Rattle.lists.specs.Rows.{policy_or, policy_named, word_of, plain_line, read_line, Rows, Reading, given, faulty, read_text}

-- A case: what is read, a text, and what reading it is to come to.
pub data Case : Type 0 where
  case : Form → List ℕ → Reading Rows → Case

row : ℕ → ℕ → ℕ → ℕ → ℕ → Row
row first second third fourth fifth = record { first = first; second = second; third = third; fourth = fourth; fifth = fifth }

read : List Row → List ℕ → Option (ℕ × ℕ) → Reading Rows
read rows at range = given (record { rows = rows; at = at; range = range })

pub answered : Case → Reading Rows
answered (case form text due) = read_text form text

pub expected : Case → Reading Rows
expected (case form text due) = due

pub cases : List Case
cases =
    -- nothing
    -- ``
    case JobForm [] (read [] [] none)
    -- `\n\n# no job\n`
    ∷ case JobForm (10 ∷ 10 ∷ 35 ∷ 32 ∷ 110 ∷ 111 ∷ 32 ∷ 106 ∷ 111 ∷ 98 ∷ 10 ∷ []) (read [] [] none)
    -- comments, blanks, carriage returns, and a last line without a line feed
    -- `# K2\r\n\r\n1 6\t8 8\r\n  2 5  22 22 # second`
    ∷ case JobForm (35 ∷ 32 ∷ 75 ∷ 50 ∷ 13 ∷ 10 ∷ 13 ∷ 10 ∷ 49 ∷ 32 ∷ 54 ∷ 9 ∷ 56 ∷ 32 ∷ 56 ∷ 13 ∷ 10 ∷ 32 ∷ 32 ∷ 50 ∷ 32 ∷ 53 ∷ 32 ∷ 32 ∷ 50 ∷ 50 ∷ 32 ∷ 50 ∷ 50 ∷ 32 ∷ 35 ∷ 32 ∷ 115 ∷ 101 ∷ 99 ∷ 111 ∷ 110 ∷ 100 ∷ []) (read (row 1 6 8 8 0 ∷ row 2 5 22 22 0 ∷ []) (3 ∷ 4 ∷ []) none)
    -- `1 2 5 5#6\n#7 2 5 5\n`
    ∷ case JobForm (49 ∷ 32 ∷ 50 ∷ 32 ∷ 53 ∷ 32 ∷ 53 ∷ 35 ∷ 54 ∷ 10 ∷ 35 ∷ 55 ∷ 32 ∷ 50 ∷ 32 ∷ 53 ∷ 32 ∷ 53 ∷ 10 ∷ []) (read (row 1 2 5 5 0 ∷ []) (1 ∷ []) none)
    -- a mark before the text
    -- `(mark)1 2 5 5\n`
    ∷ case JobForm (239 ∷ 187 ∷ 191 ∷ 49 ∷ 32 ∷ 50 ∷ 32 ∷ 53 ∷ 32 ∷ 53 ∷ 10 ∷ []) (read (row 1 2 5 5 0 ∷ []) (1 ∷ []) none)
    -- leading zeros, and the largest numbers; a list may hold jobs that the reader of blocks refuses
    -- `007 0 00000065535 1\n255 65535 65535 65535\n`
    ∷ case JobForm (48 ∷ 48 ∷ 55 ∷ 32 ∷ 48 ∷ 32 ∷ 48 ∷ 48 ∷ 48 ∷ 48 ∷ 48 ∷ 48 ∷ 54 ∷ 53 ∷ 53 ∷ 51 ∷ 53 ∷ 32 ∷ 49 ∷ 10 ∷ 50 ∷ 53 ∷ 53 ∷ 32 ∷ 54 ∷ 53 ∷ 53 ∷ 51 ∷ 53 ∷ 32 ∷ 54 ∷ 53 ∷ 53 ∷ 51 ∷ 53 ∷ 32 ∷ 54 ∷ 53 ∷ 53 ∷ 51 ∷ 53 ∷ 10 ∷ []) (read (row 7 0 65535 1 0 ∷ row 255 65535 65535 65535 0 ∷ []) (1 ∷ 2 ∷ []) none)
    -- a delay: missing, 0, and the largest
    -- `1 2 5 5\n2 2 5 5 0\n3 2 5 5 255 # late\n`
    ∷ case JobForm (49 ∷ 32 ∷ 50 ∷ 32 ∷ 53 ∷ 32 ∷ 53 ∷ 10 ∷ 50 ∷ 32 ∷ 50 ∷ 32 ∷ 53 ∷ 32 ∷ 53 ∷ 32 ∷ 48 ∷ 10 ∷ 51 ∷ 32 ∷ 50 ∷ 32 ∷ 53 ∷ 32 ∷ 53 ∷ 32 ∷ 50 ∷ 53 ∷ 53 ∷ 32 ∷ 35 ∷ 32 ∷ 108 ∷ 97 ∷ 116 ∷ 101 ∷ 10 ∷ []) (read (row 1 2 5 5 0 ∷ row 2 2 5 5 0 ∷ row 3 2 5 5 255 ∷ []) (1 ∷ 2 ∷ 3 ∷ []) none)
    -- a range, wherever it stands
    -- `1 2 5 5\nquanta 1 2 # as in K3\n2 2 5 5\n`
    ∷ case JobForm (49 ∷ 32 ∷ 50 ∷ 32 ∷ 53 ∷ 32 ∷ 53 ∷ 10 ∷ 113 ∷ 117 ∷ 97 ∷ 110 ∷ 116 ∷ 97 ∷ 32 ∷ 49 ∷ 32 ∷ 50 ∷ 32 ∷ 35 ∷ 32 ∷ 97 ∷ 115 ∷ 32 ∷ 105 ∷ 110 ∷ 32 ∷ 75 ∷ 51 ∷ 10 ∷ 50 ∷ 32 ∷ 50 ∷ 32 ∷ 53 ∷ 32 ∷ 53 ∷ 10 ∷ []) (read (row 1 2 5 5 0 ∷ row 2 2 5 5 0 ∷ []) (1 ∷ 3 ∷ []) (some (1, 2)))
    -- a second range, a range with other than two numbers, and one that is too large
    -- `quanta 1 2\nquanta 1 2\n`
    ∷ case JobForm (113 ∷ 117 ∷ 97 ∷ 110 ∷ 116 ∷ 97 ∷ 32 ∷ 49 ∷ 32 ∷ 50 ∷ 10 ∷ 113 ∷ 117 ∷ 97 ∷ 110 ∷ 116 ∷ 97 ∷ 32 ∷ 49 ∷ 32 ∷ 50 ∷ 10 ∷ []) (faulty 2 SecondRange)
    -- `quanta 1\n`
    ∷ case JobForm (113 ∷ 117 ∷ 97 ∷ 110 ∷ 116 ∷ 97 ∷ 32 ∷ 49 ∷ 10 ∷ []) (faulty 1 RangeWords)
    -- `quanta 1 2 3\n`
    ∷ case JobForm (113 ∷ 117 ∷ 97 ∷ 110 ∷ 116 ∷ 97 ∷ 32 ∷ 49 ∷ 32 ∷ 50 ∷ 32 ∷ 51 ∷ 10 ∷ []) (faulty 1 RangeWords)
    -- `quanta 1 256\n`
    ∷ case JobForm (113 ∷ 117 ∷ 97 ∷ 110 ∷ 116 ∷ 97 ∷ 32 ∷ 49 ∷ 32 ∷ 50 ∷ 53 ∷ 54 ∷ 10 ∷ []) (faulty 1 (TooLarge 3 64))
    -- a carriage return within a line, in a comment or not
    -- `1 6 8 8 # first\r2 5 22 22\n`
    ∷ case JobForm (49 ∷ 32 ∷ 54 ∷ 32 ∷ 56 ∷ 32 ∷ 56 ∷ 32 ∷ 35 ∷ 32 ∷ 102 ∷ 105 ∷ 114 ∷ 115 ∷ 116 ∷ 13 ∷ 50 ∷ 32 ∷ 53 ∷ 32 ∷ 50 ∷ 50 ∷ 32 ∷ 50 ∷ 50 ∷ 10 ∷ []) (faulty 1 LoneReturn)
    -- `1 6 8 8\r7\r\n`
    ∷ case JobForm (49 ∷ 32 ∷ 54 ∷ 32 ∷ 56 ∷ 32 ∷ 56 ∷ 13 ∷ 55 ∷ 13 ∷ 10 ∷ []) (faulty 1 LoneReturn)
    -- a word that is not a number
    -- `1 2 5 5\n2 x 5 5\n`
    ∷ case JobForm (49 ∷ 32 ∷ 50 ∷ 32 ∷ 53 ∷ 32 ∷ 53 ∷ 10 ∷ 50 ∷ 32 ∷ 120 ∷ 32 ∷ 53 ∷ 32 ∷ 53 ∷ 10 ∷ []) (faulty 2 (NotANumber 2))
    -- `-1 2 5 5\n`
    ∷ case JobForm (45 ∷ 49 ∷ 32 ∷ 50 ∷ 32 ∷ 53 ∷ 32 ∷ 53 ∷ 10 ∷ []) (faulty 1 (NotANumber 1))
    -- `99999999999999999999x 2 5 5\n`
    ∷ case JobForm (57 ∷ 57 ∷ 57 ∷ 57 ∷ 57 ∷ 57 ∷ 57 ∷ 57 ∷ 57 ∷ 57 ∷ 57 ∷ 57 ∷ 57 ∷ 57 ∷ 57 ∷ 57 ∷ 57 ∷ 57 ∷ 57 ∷ 57 ∷ 120 ∷ 32 ∷ 50 ∷ 32 ∷ 53 ∷ 32 ∷ 53 ∷ 10 ∷ []) (faulty 1 (NotANumber 1))
    -- a number that is too large
    -- `\n256 1 1 1\n`
    ∷ case JobForm (10 ∷ 50 ∷ 53 ∷ 54 ∷ 32 ∷ 49 ∷ 32 ∷ 49 ∷ 32 ∷ 49 ∷ 10 ∷ []) (faulty 2 (TooLarge 1 255))
    -- `1 1 65536 1\n`
    ∷ case JobForm (49 ∷ 32 ∷ 49 ∷ 32 ∷ 54 ∷ 53 ∷ 53 ∷ 51 ∷ 54 ∷ 32 ∷ 49 ∷ 10 ∷ []) (faulty 1 (TooLarge 3 60000))
    -- `1 1 1 1 256\n`
    ∷ case JobForm (49 ∷ 32 ∷ 49 ∷ 32 ∷ 49 ∷ 32 ∷ 49 ∷ 32 ∷ 50 ∷ 53 ∷ 54 ∷ 10 ∷ []) (faulty 1 (TooLarge 5 255))
    -- `1 1 1 99999999999999999999\n`
    ∷ case JobForm (49 ∷ 32 ∷ 49 ∷ 32 ∷ 49 ∷ 32 ∷ 57 ∷ 57 ∷ 57 ∷ 57 ∷ 57 ∷ 57 ∷ 57 ∷ 57 ∷ 57 ∷ 57 ∷ 57 ∷ 57 ∷ 57 ∷ 57 ∷ 57 ∷ 57 ∷ 57 ∷ 57 ∷ 57 ∷ 57 ∷ 10 ∷ []) (faulty 1 (TooLarge 4 60000))
    -- neither four numbers nor five
    -- `1 2 3\n`
    ∷ case JobForm (49 ∷ 32 ∷ 50 ∷ 32 ∷ 51 ∷ 10 ∷ []) (faulty 1 JobWords)
    -- `1 2 3 4 5 6\n`
    ∷ case JobForm (49 ∷ 32 ∷ 50 ∷ 32 ∷ 51 ∷ 32 ∷ 52 ∷ 32 ∷ 53 ∷ 32 ∷ 54 ∷ 10 ∷ []) (faulty 1 JobWords)
    -- two faults at once: the first word, then the number of words, then the next line
    -- `256 x 1 1\n`
    ∷ case JobForm (50 ∷ 53 ∷ 54 ∷ 32 ∷ 120 ∷ 32 ∷ 49 ∷ 32 ∷ 49 ∷ 10 ∷ []) (faulty 1 (TooLarge 1 255))
    -- `1 x\n`
    ∷ case JobForm (49 ∷ 32 ∷ 120 ∷ 10 ∷ []) (faulty 1 (NotANumber 2))
    -- `1 2 3 4 5 x\n`
    ∷ case JobForm (49 ∷ 32 ∷ 50 ∷ 32 ∷ 51 ∷ 32 ∷ 52 ∷ 32 ∷ 53 ∷ 32 ∷ 120 ∷ 10 ∷ []) (faulty 1 JobWords)
    -- `# 1\n1 2\n256 1 1 1\n`
    ∷ case JobForm (35 ∷ 32 ∷ 49 ∷ 10 ∷ 49 ∷ 32 ∷ 50 ∷ 10 ∷ 50 ∷ 53 ∷ 54 ∷ 32 ∷ 49 ∷ 32 ∷ 49 ∷ 32 ∷ 49 ∷ 10 ∷ []) (faulty 2 JobWords)
    -- eight jobs and nine
    -- `1 1 9 9\n2 1 9 9\n3 1 9 9\n4 1 9 9\n5 1 9 9\n6 1 9 9\n7 1 9 9\n8 1 9 9\n`
    ∷ case JobForm (49 ∷ 32 ∷ 49 ∷ 32 ∷ 57 ∷ 32 ∷ 57 ∷ 10 ∷ 50 ∷ 32 ∷ 49 ∷ 32 ∷ 57 ∷ 32 ∷ 57 ∷ 10 ∷ 51 ∷ 32 ∷ 49 ∷ 32 ∷ 57 ∷ 32 ∷ 57 ∷ 10 ∷ 52 ∷ 32 ∷ 49 ∷ 32 ∷ 57 ∷ 32 ∷ 57 ∷ 10 ∷ 53 ∷ 32 ∷ 49 ∷ 32 ∷ 57 ∷ 32 ∷ 57 ∷ 10 ∷ 54 ∷ 32 ∷ 49 ∷ 32 ∷ 57 ∷ 32 ∷ 57 ∷ 10 ∷ 55 ∷ 32 ∷ 49 ∷ 32 ∷ 57 ∷ 32 ∷ 57 ∷ 10 ∷ 56 ∷ 32 ∷ 49 ∷ 32 ∷ 57 ∷ 32 ∷ 57 ∷ 10 ∷ []) (read (row 1 1 9 9 0 ∷ row 2 1 9 9 0 ∷ row 3 1 9 9 0 ∷ row 4 1 9 9 0 ∷ row 5 1 9 9 0 ∷ row 6 1 9 9 0 ∷ row 7 1 9 9 0 ∷ row 8 1 9 9 0 ∷ []) (1 ∷ 2 ∷ 3 ∷ 4 ∷ 5 ∷ 6 ∷ 7 ∷ 8 ∷ []) none)
    -- `1 1 9 9\n2 1 9 9\n3 1 9 9\n4 1 9 9\n5 1 9 9\n6 1 9 9\n7 1 9 9\n8 1 9 9\n\n9 1 9 9\n`
    ∷ case JobForm (49 ∷ 32 ∷ 49 ∷ 32 ∷ 57 ∷ 32 ∷ 57 ∷ 10 ∷ 50 ∷ 32 ∷ 49 ∷ 32 ∷ 57 ∷ 32 ∷ 57 ∷ 10 ∷ 51 ∷ 32 ∷ 49 ∷ 32 ∷ 57 ∷ 32 ∷ 57 ∷ 10 ∷ 52 ∷ 32 ∷ 49 ∷ 32 ∷ 57 ∷ 32 ∷ 57 ∷ 10 ∷ 53 ∷ 32 ∷ 49 ∷ 32 ∷ 57 ∷ 32 ∷ 57 ∷ 10 ∷ 54 ∷ 32 ∷ 49 ∷ 32 ∷ 57 ∷ 32 ∷ 57 ∷ 10 ∷ 55 ∷ 32 ∷ 49 ∷ 32 ∷ 57 ∷ 32 ∷ 57 ∷ 10 ∷ 56 ∷ 32 ∷ 49 ∷ 32 ∷ 57 ∷ 32 ∷ 57 ∷ 10 ∷ 10 ∷ 57 ∷ 32 ∷ 49 ∷ 32 ∷ 57 ∷ 32 ∷ 57 ∷ 10 ∷ []) (faulty 10 TooMany)
    -- a configuration: policies by name and by number, and a bound after them
    -- `1 2 rr 3\n2 1 fifo 0 # alone\n3 0 none 0\n4 2 2 1 65535\n`
    ∷ case SettingForm (49 ∷ 32 ∷ 50 ∷ 32 ∷ 114 ∷ 114 ∷ 32 ∷ 51 ∷ 10 ∷ 50 ∷ 32 ∷ 49 ∷ 32 ∷ 102 ∷ 105 ∷ 102 ∷ 111 ∷ 32 ∷ 48 ∷ 32 ∷ 35 ∷ 32 ∷ 97 ∷ 108 ∷ 111 ∷ 110 ∷ 101 ∷ 10 ∷ 51 ∷ 32 ∷ 48 ∷ 32 ∷ 110 ∷ 111 ∷ 110 ∷ 101 ∷ 32 ∷ 48 ∷ 10 ∷ 52 ∷ 32 ∷ 50 ∷ 32 ∷ 50 ∷ 32 ∷ 49 ∷ 32 ∷ 54 ∷ 53 ∷ 53 ∷ 51 ∷ 53 ∷ 10 ∷ []) (read (row 1 2 2 3 0 ∷ row 2 1 1 0 0 ∷ row 3 0 0 0 0 ∷ row 4 2 2 1 65535 ∷ []) (1 ∷ 2 ∷ 3 ∷ 4 ∷ []) none)
    -- a key: its bounds and its last line are let by
    -- `1 2 2 3 8\n2 2 2 1 20\nplaced 2 of 2\n`
    ∷ case SettingForm (49 ∷ 32 ∷ 50 ∷ 32 ∷ 50 ∷ 32 ∷ 51 ∷ 32 ∷ 56 ∷ 10 ∷ 50 ∷ 32 ∷ 50 ∷ 32 ∷ 50 ∷ 32 ∷ 49 ∷ 32 ∷ 50 ∷ 48 ∷ 10 ∷ 112 ∷ 108 ∷ 97 ∷ 99 ∷ 101 ∷ 100 ∷ 32 ∷ 50 ∷ 32 ∷ 111 ∷ 102 ∷ 32 ∷ 50 ∷ 10 ∷ []) (read (row 1 2 2 3 8 ∷ row 2 2 2 1 20 ∷ []) (1 ∷ 2 ∷ []) none)
    -- a name where none may stand, another name, a policy that a record does not hold, and a range, which only a list says
    -- `1 fifo 1 0\n`
    ∷ case SettingForm (49 ∷ 32 ∷ 102 ∷ 105 ∷ 102 ∷ 111 ∷ 32 ∷ 49 ∷ 32 ∷ 48 ∷ 10 ∷ []) (faulty 1 (NotANumber 2))
    -- `1 1 FIFO 0\n`
    ∷ case SettingForm (49 ∷ 32 ∷ 49 ∷ 32 ∷ 70 ∷ 73 ∷ 70 ∷ 79 ∷ 32 ∷ 48 ∷ 10 ∷ []) (faulty 1 NotAPolicy)
    -- `1 1 256 0\n`
    ∷ case SettingForm (49 ∷ 32 ∷ 49 ∷ 32 ∷ 50 ∷ 53 ∷ 54 ∷ 32 ∷ 48 ∷ 10 ∷ []) (faulty 1 NotAPolicy)
    -- `1 256 1 0\n`
    ∷ case SettingForm (49 ∷ 32 ∷ 50 ∷ 53 ∷ 54 ∷ 32 ∷ 49 ∷ 32 ∷ 48 ∷ 10 ∷ []) (faulty 1 (TooLarge 2 8))
    -- `quanta 1 2\n`
    ∷ case SettingForm (113 ∷ 117 ∷ 97 ∷ 110 ∷ 116 ∷ 97 ∷ 32 ∷ 49 ∷ 32 ∷ 50 ∷ 10 ∷ []) (faulty 1 (NotANumber 1))
    -- `1 1 fifo\n`
    ∷ case SettingForm (49 ∷ 32 ∷ 49 ∷ 32 ∷ 102 ∷ 105 ∷ 102 ∷ 111 ∷ 10 ∷ []) (faulty 1 SettingWords)
    -- `1 1 fifo 256\n`
    ∷ case SettingForm (49 ∷ 32 ∷ 49 ∷ 32 ∷ 102 ∷ 105 ∷ 102 ∷ 111 ∷ 32 ∷ 50 ∷ 53 ∷ 54 ∷ 10 ∷ []) (faulty 1 (TooLarge 4 64))
    -- kernel records; a configuration's row, by name and by number, a policy that is no name of one or no kernel record's; a key's row, and a priority past a byte
    -- `1 rr 98 3\n2 fifo 99 0 # alone\n`
    ∷ case KernelForm (49 ∷ 32 ∷ 114 ∷ 114 ∷ 32 ∷ 57 ∷ 56 ∷ 32 ∷ 51 ∷ 10 ∷ 50 ∷ 32 ∷ 102 ∷ 105 ∷ 102 ∷ 111 ∷ 32 ∷ 57 ∷ 57 ∷ 32 ∷ 48 ∷ 32 ∷ 35 ∷ 32 ∷ 97 ∷ 108 ∷ 111 ∷ 110 ∷ 101 ∷ 10 ∷ []) (read (row 1 2 98 3 0 ∷ row 2 1 99 0 0 ∷ []) (1 ∷ 2 ∷ []) none)
    -- `1 2 rr 3\n`
    ∷ case KernelForm (49 ∷ 32 ∷ 50 ∷ 32 ∷ 114 ∷ 114 ∷ 32 ∷ 51 ∷ 10 ∷ []) (faulty 1 NotAPolicyName)
    -- `1 1 1 0\n`
    ∷ case KernelForm (49 ∷ 32 ∷ 49 ∷ 32 ∷ 49 ∷ 32 ∷ 48 ∷ 10 ∷ []) (faulty 1 NotAPolicyName)
    -- `1 RR 98 3\n`
    ∷ case KernelForm (49 ∷ 32 ∷ 82 ∷ 82 ∷ 32 ∷ 57 ∷ 56 ∷ 32 ∷ 51 ∷ 10 ∷ []) (faulty 1 NotAPolicyName)
    -- `1 none 0 0\n`
    ∷ case KernelForm (49 ∷ 32 ∷ 110 ∷ 111 ∷ 110 ∷ 101 ∷ 32 ∷ 48 ∷ 32 ∷ 48 ∷ 10 ∷ []) (faulty 1 NotAPolicyName)
    -- `1 fifo 1 0 8\n`
    ∷ case KernelForm (49 ∷ 32 ∷ 102 ∷ 105 ∷ 102 ∷ 111 ∷ 32 ∷ 49 ∷ 32 ∷ 48 ∷ 32 ∷ 56 ∷ 10 ∷ []) (faulty 1 KernelWords)
    -- `1 rr 256 3\n`
    ∷ case KernelForm (49 ∷ 32 ∷ 114 ∷ 114 ∷ 32 ∷ 50 ∷ 53 ∷ 54 ∷ 32 ∷ 51 ∷ 10 ∷ []) (faulty 1 (TooLarge 3 255))
    ∷ []

pub read-cases : map answered cases ≡ map expected cases
unfolding row read answered expected cases every same_bytes number_of policy_or policy_named word_of plain_line read_line read_text
read-cases = refl
