-- What the words of a command mean. Assumes nothing.
use Rattle.std.specs.Prelude.{ℕ, ◌+◌, ◌%◌, Bool, cond, ◌&&◌, ◌||◌, List, [], ◌∷◌, eqb, leb, ltb, length, get_or, take, drop, Option, None, Some, Result, Ok, Err}
use Rattle.same_bytes.specs.Same.{same_bytes}
use Rattle.lists.specs.declared.words.Mark.TheVariants.{Hyphen}
use Rattle.lists.specs.declared.fault.Fault.{Fault}
use Rattle.lists.specs.Words.{is_mark, before, number_of}
use Rattle.command.specs.declared.Word.{Word}
use Rattle.command.specs.declared.Word.TheVariants.{Key, Mark, Bounds, Explain, Loader, Block, Text, Install, Help, Unknown}
use Rattle.command.specs.declared.Argument.{Argument}
use Rattle.command.specs.declared.Argument.TheVariants.{Quanta, Priorities, Blocks, Configuration, Back, Bytes, End, UnknownOption, Name}
use Rattle.command.specs.declared.span.Span.{Span}

-- `block`, `text`, `install` and `help`, which is `--help` and `-h` too.
unfoldable pub other_word : List ℕ → Word
other_word argument =
    cond (same_bytes argument (98 ∷ 108 ∷ 111 ∷ 99 ∷ 107 ∷ [])) Block
    (cond (same_bytes argument (116 ∷ 101 ∷ 120 ∷ 116 ∷ [])) Text
    (cond (same_bytes argument (105 ∷ 110 ∷ 115 ∷ 116 ∷ 97 ∷ 108 ∷ 108 ∷ [])) Install
    (cond (same_bytes argument (104 ∷ 101 ∷ 108 ∷ 112 ∷ [])) Help
    (cond (same_bytes argument (45 ∷ 45 ∷ 104 ∷ 101 ∷ 108 ∷ 112 ∷ [])) Help
    (cond (same_bytes argument (45 ∷ 104 ∷ [])) Help Unknown)))))

-- `key`, `mark`, `bounds`, `explain` and `loader`.
unfoldable pub word_of : List ℕ → Word
word_of argument =
    cond (same_bytes argument (107 ∷ 101 ∷ 121 ∷ [])) Key
    (cond (same_bytes argument (109 ∷ 97 ∷ 114 ∷ 107 ∷ [])) Mark
    (cond (same_bytes argument (98 ∷ 111 ∷ 117 ∷ 110 ∷ 100 ∷ 115 ∷ [])) Bounds
    (cond (same_bytes argument (101 ∷ 120 ∷ 112 ∷ 108 ∷ 97 ∷ 105 ∷ 110 ∷ [])) Explain
    (cond (same_bytes argument (108 ∷ 111 ∷ 97 ∷ 100 ∷ 101 ∷ 114 ∷ [])) Loader (other_word argument)))))

-- It begins with two hyphens.
unfoldable pub is_option : List ℕ → Bool
is_option argument = leb 2 (length argument) && (eqb (get_or argument 0 0) 45 && eqb (get_or argument 1 0) 45)

-- `--`; what else begins with two hyphens is an option that there is not.
unfoldable pub other_argument : List ℕ → Argument
other_argument argument = cond (same_bytes argument (45 ∷ 45 ∷ [])) End (cond (is_option argument) UnknownOption Name)

-- `--quanta`, `--priorities`, `--block`, `--configuration`, `--back` and `--bytes`.
unfoldable pub argument_of : List ℕ → Argument
argument_of argument =
    cond (same_bytes argument (45 ∷ 45 ∷ 113 ∷ 117 ∷ 97 ∷ 110 ∷ 116 ∷ 97 ∷ [])) Quanta
    (cond (same_bytes argument (45 ∷ 45 ∷ 112 ∷ 114 ∷ 105 ∷ 111 ∷ 114 ∷ 105 ∷ 116 ∷ 105 ∷ 101 ∷ 115 ∷ [])) Priorities
    (cond (same_bytes argument (45 ∷ 45 ∷ 98 ∷ 108 ∷ 111 ∷ 99 ∷ 107 ∷ [])) Blocks
    (cond (same_bytes argument (45 ∷ 45 ∷ 99 ∷ 111 ∷ 110 ∷ 102 ∷ 105 ∷ 103 ∷ 117 ∷ 114 ∷ 97 ∷ 116 ∷ 105 ∷ 111 ∷ 110 ∷ [])) Configuration
    (cond (same_bytes argument (45 ∷ 45 ∷ 98 ∷ 97 ∷ 99 ∷ 107 ∷ [])) Back
    (cond (same_bytes argument (45 ∷ 45 ∷ 98 ∷ 121 ∷ 116 ∷ 101 ∷ 115 ∷ [])) Bytes (other_argument argument))))))

-- A range of quanta or of priorities as a word: two numbers of a byte each, with a hyphen between.
abbrev pub pair_of : Result ℕ Fault → Result ℕ Fault → Option Span
pair_of (Ok low) (Ok high) = Some (record { low = low % 256; high = high % 256 })
pair_of (Ok low) (Err fault) = None
pair_of (Err fault) high = None

unfoldable pub span_of : List ℕ → Option Span
span_of word =
    let hyphen = length (before (is_mark Hyphen) word) in
    cond (eqb hyphen 0 || leb (length word) (hyphen + 1)) None (pair_of (number_of 1 255 255 (take hyphen word)) (number_of 2 255 255 (drop (hyphen + 1) word)))

-- The range of a call: the option's, else the list's, else 1 to 4.
abbrev pub chosen : Option Span → Option Span → Span
chosen (Some option) list = option
chosen None (Some list) = list
chosen None None = record { low = 1; high = 4 }

-- A byte of a name as it is shown: a control byte as a question mark.
abbrev pub shown_byte : ℕ → ℕ
shown_byte byte = cond (ltb byte 32 || eqb byte 127) 63 byte
