-- What a function that writes a text answers beside it: yes or no, or why there is no text. Assumes nothing.
use Rattle.std.specs.Prelude.{ℕ, Bool, Result}
use Rattle.records.specs.Refusals.{Answer, handed}
use Rattle.records.specs.declared.refusal.Refusal.{Refusal}
use Rattle.text.specs.declared.answer.Told.{Told}

-- The answer, in 01's numbers and values.
abbrev pub answered : Result Bool Refusal → Answer Bool
answered r = handed r (λ yes. yes)

-- With where the lines of the jobs end, and the length of the text.
abbrev pub told : Result Told Refusal → Answer (Bool × (ℕ × ℕ))
told r = handed r (λ t. (t.yes, (t.last, t.length)))
