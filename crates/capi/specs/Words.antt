-- Answers as one word: byte 0 is the refusal's number, 0 for none; the values stand from byte 1 on. Assumes nothing.
use Rattle.std.specs.Prelude.{ℕ, ◌+◌, ◌*◌, Bool, true, false}
use Rattle.records.specs.Refusals.{Answer, refused, given}

abbrev pub word : {A : Type 0} → (A → ℕ) → Answer A → ℕ
word value (refused k) = k
word value (given a) = 256 * value a

-- An outcome with its answer as a word.
abbrev pub in_words : {A B : Type 0} → (A → ℕ) → Answer A × B → ℕ × B
in_words value o = (word value o.0, o.1)

-- The values: a count, none, yes or no, the placed set with the count of sets considered.
abbrev pub count_value : ℕ → ℕ
count_value n = n

abbrev pub no_value : Unit {0} → ℕ
no_value v = 0

abbrev pub truth_value : Bool → ℕ
truth_value true = 1
truth_value false = 0

abbrev pub plan_value : ℕ × ℕ → ℕ
plan_value v = v.0 + 256 * v.1
