-- The sums of periods in a table, by set number. Assumes nothing.
use Rattle.std.specs.Prelude.{ℕ, ◌+◌, ◌*◌, ◌^◌, ◌≤◌, ◌<◌, ◌≡◌, List, get_or}
use Rattle.periods.specs.ByPeriods.{total}

-- The table has the sum of each set of the first n jobs; periods have two bytes.
pub record SumsOf (periods : ℕ → ℕ) (n : ℕ) (sums : List ℕ) : Type 0 where
  pub is : (s : ℕ) → s < 2 ^ n → get_or sums s 0 ≡ total periods s
  pub small : (s : ℕ) → s < 2 ^ n → get_or sums s 0 ≤ n * 65535

-- The sums of the first `half` sets stay, and those of as many sets after them are these with a period more.
pub record Doubled (half period : ℕ) (before after : List ℕ) : Type 0 where
  pub kept : (s : ℕ) → s < half → get_or after s 0 ≡ get_or before s 0
  pub more : (s : ℕ) → s < half → get_or after (half + s) 0 ≡ get_or before s 0 + period
