-- Why a call is turned down (01): the numbers of the refusals, the tests of a call in the order in which they are made,
-- and the outcome of a call by its tests. Assumes nothing.
use Rattle.std.specs.Prelude.{ℕ, Result, Ok, Err, List, [], ◌∷◌, Bool, true, cond, ◌≡◌}
use Rattle.records.specs.declared.refusal.Refusal.{Refusal}
use Rattle.records.specs.declared.refusal.Refusal.TheVariants.{JobCount, JobId, IdOrder, Place, JobTimes, QuantumRange, ConfigurationSize, ConfigurationIds, RecordShape, LevelSharing, NotPlaced, OutputLength, PriorityRange, KernelPriority, GateLimits}

-- The number of each refusal.
abbrev pub number : Refusal → ℕ
number JobCount = 1
number JobId = 2
number IdOrder = 3
number Place = 4
number JobTimes = 5
number QuantumRange = 6
number ConfigurationSize = 7
number ConfigurationIds = 8
number RecordShape = 9
number LevelSharing = 10
number NotPlaced = 11
number OutputLength = 12
number PriorityRange = 13
number KernelPriority = 14
number GateLimits = 15

-- The answer of a call: a refusal's number alone, or the values of type A.
pub data Answer (A : Type 0) : Type 0 where
  refused : ℕ → Answer A
  given : A → Answer A

-- The tests that a call has to pass, in order, each with the number of the refusal that it gives where it fails.
abbrev pub Tests : Type 0
Tests = List (Bool × ℕ)

-- The outcome of a call by its tests: the values, and what is then in the memory that was lent; or the number of the first
-- test that fails, and the memory as it was ("A refusal returns its number alone and changes nothing lent").
abbrev pub outcome : {A B : Type 0} → Tests → A → B → B → Answer A × B
outcome [] values new old = (given values, new)
outcome (t ∷ tests) values new old = cond t.0 (outcome tests values new old) (refused t.1, old)

-- The outcome of a call that is turned down.
abbrev pub turned : {A B : Type 0} → Refusal → B → Answer A × B
turned refusal old = (refused (number refusal), old)

-- The answer of a call to which nothing is lent.
abbrev pub answer : {A : Type 0} → Tests → A → Answer A
answer tests values = (outcome {B = Unit {0}} tests values tt tt).0

-- Every test holds: no refusal applies.
abbrev pub Accepts : Tests → Type 0
Accepts [] = Unit {0}
Accepts (t ∷ tests) = (t.0 ≡ true) × Accepts tests

-- ---- answers as the code has them, in 01's numbers and values

-- A value that the code gives, as `taken` takes it, or its refusal.
abbrev pub handed : {V A : Type 0} → Result V Refusal → (V → A) → Answer A
handed (Ok v) taken = given (taken v)
handed (Err refusal) taken = refused (number refusal)

-- No value.
abbrev pub verdict : Result (Unit {0}) Refusal → Answer (Unit {0})
verdict r = handed r (λ v. tt)

-- A count, or another value that is told as it is.
abbrev pub counted : Result ℕ Refusal → Answer ℕ
counted r = handed r (λ n. n)

-- An answer without its count.
abbrev pub verdict_of : Result ℕ Refusal → Result (Unit {0}) Refusal
verdict_of (Ok n) = Ok tt
verdict_of (Err refusal) = Err refusal
