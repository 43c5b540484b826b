-- 01's order of the sets of jobs, the walk along a sequence of sets, and which sets are considered (01, "The planner's answer").
-- A sequence is any list of set numbers; `order` is 01's, which the planner's own order sorts within each size (periods). Assumes nothing.
use Rattle.std.specs.Prelude.{ℕ, Option, None, Some, zero, suc, ◌+◌, ◌-◌, ◌^◌, ◌≤◌, ◌<◌, ◌≡◌, Bool, true, false, cond, ◌≢◌, eqb, length, get_or}
use mathlib.Core.List.{List, [], ◌∷◌, ◌++◌, Memᴰ}
use Rattle.sets.specs.Sets.{places, rest, within, size}

-- The numbers from i on, n of them.
unfoldable pub range : ℕ → ℕ → List ℕ
range i zero = []
range i (suc n) = i ∷ range (suc i) n

-- The members of a list that pass a test.
unfoldable pub keep : {A : Type 0} → (A → Bool) → List A → List A
keep test [] = []
keep test (x ∷ xs) = cond (test x) (x ∷ keep test xs) (keep test xs)

-- The sets of n jobs that have m members, the smaller number first.
unfoldable pub of_size : ℕ → ℕ → List ℕ
of_size n m = keep (λ s. eqb (size s) m) (range 1 (2 ^ n - 1))

-- The sets of n jobs that have m members, then those that have one more, and so on for k sizes.
unfoldable pub sizes_from : ℕ → ℕ → ℕ → List ℕ
sizes_from n m zero = []
sizes_from n m (suc k) = of_size n m ++ sizes_from n (suc m) k

-- The non-empty sets of n jobs: smaller ones first, among sets of one size the smaller number first.
unfoldable pub in_order : ℕ → List ℕ
in_order n = sizes_from n 1 n

-- The order of all 255 sets of eight jobs.
unfoldable pub order : List ℕ
order = in_order places

-- The rule of such a table: each non-empty set of n jobs stands in it at exactly one place and nothing else does;
-- from place to place sizes never fall, and among sets of one size numbers rise.
pub record Rule (n : ℕ) (sequence : List ℕ) : Type 0 where
  pub once : (s : ℕ) → 0 < s → s < 2 ^ n
      → (p : ℕ) × (p < length sequence) × (get_or sequence p 0 ≡ s) × ((q : ℕ) → q < length sequence → get_or sequence q 0 ≡ s → q ≡ p)
  pub only : (p : ℕ) → p < length sequence → (0 < get_or sequence p 0) × (get_or sequence p 0 < 2 ^ n)
  pub sizes : (p q : ℕ) → p < q → q < length sequence → size (get_or sequence p 0) ≤ size (get_or sequence q 0)
  pub numbers : (p q : ℕ) → p < q → q < length sequence → size (get_or sequence p 0) ≡ size (get_or sequence q 0) → get_or sequence p 0 < get_or sequence q 0

-- R holds between each entry and each later one.
abbrev pub Pairwise : (ℕ → ℕ → Type 0) → List ℕ → Type 0
Pairwise R [] = Unit {0}
Pairwise R (x ∷ xs) = ((y : ℕ) → Memᴰ y xs → R x y) × Pairwise R xs

-- Sets of n jobs, none of them empty and none twice, whose sizes never fall.
pub record BySize (n : ℕ) (sequence : List ℕ) : Type 0 where
  pub only : (s : ℕ) → Memᴰ s sequence → (0 < s) × (s < 2 ^ n)
  pub rising : Pairwise (λ s t. (size s ≤ size t) × (s ≢ t)) sequence

-- ---- the walk

-- Where the first set of a list that lies within the set left stands, the list's own first place being `place`.
unfoldable pub next_from : ℕ → ℕ → List ℕ → Option ℕ
next_from left place [] = None
next_from left place (s ∷ sequence) = cond (within s left) (Some place) (next_from left (suc place) sequence)

-- ---- the sets considered

-- The subsets of the set left, in the order of the sequence.
unfoldable pub subsets : ℕ → List ℕ → List ℕ
subsets left sequence = keep (λ s. within s left) sequence

-- The first set of a list that can be taken; 0 where none can.
unfoldable pub first_taken : (ℕ → Bool) → List ℕ → ℕ
first_taken takeable [] = 0
first_taken takeable (s ∷ sets) = elim (takeable s) [ true ↦ s | false ↦ first_taken takeable sets ]

-- The sets of a list that are considered: a taken set counts, those after it don't.
unfoldable pub considered : (ℕ → Bool) → List ℕ → List ℕ
considered takeable [] = []
considered takeable (s ∷ sets) = s ∷ elim (takeable s) [ true ↦ [] | false ↦ considered takeable sets ]

-- The count of sets considered, summed over at most `levels` levels; the first set that can be taken leaves its rest to the next level.
-- `takeable left s`: the set s of jobs of `left` can be taken.
unfoldable pub considered_count : (ℕ → ℕ → Bool) → List ℕ → ℕ → ℕ → ℕ
considered_count takeable sequence zero left = 0
considered_count takeable sequence (suc levels) left =
    let s = first_taken (takeable left) (subsets left sequence) in
    length (considered (takeable left) (subsets left sequence))
    + elim (eqb s 0) [ true ↦ 0 | false ↦ considered_count takeable sequence levels (rest left s) ]
