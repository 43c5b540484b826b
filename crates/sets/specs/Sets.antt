-- Sets of jobs. In the laws a set is a test on places; in code and blocks it is a number, with the list's first job as 1,
-- the second as 2, the third as 4 and so on (01, "The planner's answer"). Assumes nothing.
use Rattle.std.specs.Prelude.{ℕ, ◌/◌, ◌%◌, ◌-◌, ◌^◌, ◌<◌, min, ◌≡◌, Bool, true, not, ◌&&◌, eqb, ltb}
use Rattle.std.specs.Int.Bits.{bit_and, bit_or}
use Rattle.std.specs.Int.Count.{ones, count_trailing_zeros}

-- A set of jobs, as a test on places.
abbrev pub Set : Type 0
Set = ℕ → Bool

-- The number of places in one byte: the most jobs.
abbrev pub places : ℕ
places = 8

-- The set that has the number s.
unfoldable pub has : ℕ → Set
has s i = eqb (s / 2 ^ i % 2) 1

-- The number of the set of one job; 0 past the last place.
unfoldable pub single : ℕ → ℕ
single i = 2 ^ i % 2 ^ places

-- s with the job i.
unfoldable pub insert : ℕ → ℕ → ℕ
insert s i = bit_or s (single i)

-- The members of either.
unfoldable pub join : ℕ → ℕ → ℕ
join r s = bit_or r s

-- The members of r that are not in s: the rest of r.
unfoldable pub rest : ℕ → ℕ → ℕ
rest r s = r - bit_and r s

-- s without the job i.
unfoldable pub remove : ℕ → ℕ → ℕ
remove s i = rest s (single i)

-- Each member of p is in s.
unfoldable pub within : ℕ → ℕ → Bool
within p s = eqb (bit_and p s) p

-- The number of members.
unfoldable pub size : ℕ → ℕ
size s = ones s

-- The lowest member; the number of places where the set is empty.
unfoldable pub lowest : ℕ → ℕ
lowest s = count_trailing_zeros places s

-- The set of the first n jobs.
unfoldable pub first_jobs : ℕ → ℕ
first_jobs n = 2 ^ min n places - 1

-- ---- sets as tests

-- Each job of s below n is in r.
abbrev pub Sub : ℕ → Set → Set → Type 0
Sub n s r = (i : ℕ) → i < n → s i ≡ true → r i ≡ true

-- The jobs of both.
abbrev pub both : Set → Set → Set
both r s i = r i && s i

-- The jobs of r that are not in s.
abbrev pub but : Set → Set → Set
but r s i = r i && not (s i)

-- The job k, and no other below n, makes up the set s.
abbrev pub Alone : ℕ → Set → ℕ → Type 0
Alone n s k = (i : ℕ) → i < n → s i ≡ true → i ≡ k

-- The number s has exactly those places of the set that are below n.
abbrev pub Collects : ℕ → Set → ℕ → Type 0
Collects n set s = (i : ℕ) → has s i ≡ (ltb i n && set i)
