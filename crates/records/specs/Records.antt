-- Blocks: "Records have one fixed size and no header. Two-byte numbers have the high byte first" (01). Each definition serves every
-- kind of record: `width` is its size in bytes, `bytes` gives a record's bytes, and `read` reads the record that a list begins with.
-- Assumes nothing.
use Rattle.std.specs.Prelude.{ℕ, zero, suc, ◌+◌, ◌-◌, ◌*◌, ◌/◌, ◌%◌, ◌<◌, List, [], ◌∷◌, ◌++◌, leb, length, get_or, drop, replicate}
use Rattle.records.specs.Refusals.{Answer, Tests, outcome}

-- Two bytes as a number, the number in the first bytes of a block, and a number as two bytes.
abbrev pub word : ℕ → ℕ → ℕ
word high low = high * 256 + low

unfoldable pub word_of : List ℕ → ℕ
word_of block = word (get_or block 0 0) (get_or block 1 0)

unfoldable pub word_bytes : ℕ → List ℕ
word_bytes x = x / 256 ∷ x % 256 ∷ []

-- The same with four bytes, "high byte first" (02, E6): two bytes for the high half and two for the low one.
unfoldable pub long_of : List ℕ → ℕ
long_of block = word_of block * 65536 + word_of (drop 2 block)

unfoldable pub long_bytes : ℕ → List ℕ
long_bytes x = word_bytes (x / 65536) ++ word_bytes (x % 65536)

-- Each number of a list is a byte.
abbrev pub AllBytes : List ℕ → Type 0
AllBytes s = (i : ℕ) → get_or s i 0 < 256

-- The bytes of a list of records.
unfoldable pub flat : {A : Type 0} → (A → List ℕ) → List A → List ℕ
flat bytes [] = []
flat bytes (r ∷ records) = bytes r ++ flat bytes records

-- The first n records of a block, each `width` bytes long.
unfoldable pub chunks : {A : Type 0} → ℕ → (List ℕ → A) → ℕ → List ℕ → List A
chunks width read zero block = []
chunks width read (suc n) block = read block ∷ chunks width read n (drop width block)

-- A table of `size` entries: the list, and the blank for the rest.
abbrev pub table : {A : Type 0} → ℕ → A → List A → List A
table size blank entries = entries ++ replicate (size - length entries) blank

-- ---- the way out

-- What is in an output when records are written to it: their bytes, and past those what it held.
abbrev pub written : {A : Type 0} → ℕ → (A → List ℕ) → List A → List ℕ → List ℕ
written width bytes records output = flat bytes records ++ drop (width * length records) output

-- Refusal 12: an output of `room` bytes is shorter than the need.
abbrev pub room_tests : ℕ → ℕ → Tests
room_tests need room = (leb need room, 12) ∷ []

-- The outcome of a writer that judges the room alone: the number of bytes, and the output at exit.
unfoldable pub write_records : {A : Type 0} → ℕ → (A → List ℕ) → List A → List ℕ → Answer ℕ × List ℕ
write_records width bytes records output =
    outcome (room_tests (width * length records) (length output)) (width * length records) (written width bytes records output) output
