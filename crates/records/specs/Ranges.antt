-- The range of quanta: refusal 6. Assumes nothing.
use Rattle.std.specs.Prelude.{ℕ, Result, [], ◌∷◌, leb}
use Rattle.records.specs.Limits.{longest_quantum}
use Rattle.records.specs.Refusals.{Answer, handed, Tests, Accepts}
use Rattle.records.specs.declared.range.Range.{Range}
use Rattle.records.specs.declared.refusal.Refusal.{Refusal}

-- The range of two numbers.
abbrev pub range_of : ℕ → ℕ → Range
range_of low high = record { low = low; high = high }

-- Refusal 6: the lowest quantum is 0 or above the highest, or the highest is above 64.
abbrev pub range_tests : ℕ → ℕ → Tests
range_tests low high = (leb 1 low, 6) ∷ (leb low high, 6) ∷ (leb high longest_quantum, 6) ∷ []

-- An accepted range.
abbrev pub AcceptedRange : ℕ → ℕ → Type 0
AcceptedRange low high = Accepts (range_tests low high)

-- What Range::new answers, in 01's numbers and values.
abbrev pub new_range_answer : Result Range Refusal → Answer Range
new_range_answer r = handed r (λ range. range)
