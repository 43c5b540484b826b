-- The test for same bytes (01): "unequal lengths give no, two empty blocks give yes". Assumes nothing.
use Rattle.std.specs.Prelude.{ℕ, ◌+◌, ◌-◌, ◌*◌, ◌%◌, ◌≤◌, ◌<◌, ◌≡◌, Bool, ◌&&◌, List, eqb, length, get_or}
use Rattle.sets.specs.Places.{every}

-- The two blocks have one byte at place i.
abbrev pub same_at : List ℕ → List ℕ → ℕ → Bool
same_at a b i = eqb (get_or a i 0) (get_or b i 0)

-- Two blocks of one length, with the same byte at each place.
unfoldable pub same_bytes : List ℕ → List ℕ → Bool
same_bytes a b = eqb (length a) (length b) && every (same_at a b) (length a)

-- ---- how the code finds it (02, E3): each record of four bytes as one number. Only contracts of private functions cite what follows.

-- The two blocks have the same byte at each place that is not before `from` and is before `end`.
unfoldable pub same_between : List ℕ → List ℕ → ℕ → ℕ → Bool
same_between a b from end = every (λ i. same_at a b (from + i)) (end - from)

abbrev pub record_size : ℕ
record_size = 4

-- Four bytes as one number of 32 bits. It serves to tell records apart, which any order of the bytes does.
abbrev pub record_number : ℕ → ℕ → ℕ → ℕ → ℕ
record_number first second third fourth = first + second * 256 + third * 65536 + fourth * 16777216

-- The number of the record that a list begins with.
abbrev pub number_of : List ℕ → ℕ
number_of bytes = record_number (get_or bytes 0 0) (get_or bytes 1 0) (get_or bytes 2 0) (get_or bytes 3 0)

-- Two blocks of one length, made of whole records.
pub record WholeRecords (a b : List ℕ) : Type 0 where
  pub lengths : length a ≡ length b
  pub whole : length a % record_size ≡ 0

-- A size of parts that are made of whole records.
pub record PartSize (size : ℕ) : Type 0 where
  pub above_zero : 0 < size
  pub records : size % record_size ≡ 0

-- Two places of both blocks with whole parts between them.
pub record InParts (size from end : ℕ) (a b : List ℕ) : Type 0 where
  pub ordered : from ≤ end
  pub starts : from % size ≡ 0
  pub ends : end % size ≡ 0
  pub in-a : end ≤ length a
  pub in_b : end ≤ length b
