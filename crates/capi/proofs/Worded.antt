-- An outcome with its answer as a word. Assumes nothing.
use Prim.Native.Nat.{ℕ}
use mathlib.Core.Path.{◌≡◌, ap, ◌∙◌}
use Rattle.records.specs.Refusals.{Answer}
use Rattle.capi.specs.Words.{word, in_words}

pub worded : {A B : Type 0} (value : A → ℕ) {w : ℕ} {a : Answer A} {b : B} {o : Answer A × B} → w ≡ word value a → (a, b) ≡ o → (w, b) ≡ in_words value o
worded value {w} {a} {b} {o} e f = ap (λ (x : ℕ). (x, b)) e ∙ ap (in_words value) f
