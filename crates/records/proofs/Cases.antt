-- How the records of cases that the checker computes are written. Assumes nothing.
use Prim.Native.Nat.{ℕ}
use mathlib.Core.List.{List, ◌∷◌, ◌++◌}
use Rattle.records.specs.Records.{word_bytes}

-- The bytes of a record: id, J, C, T and D.
unfoldable pub row : ℕ → ℕ → ℕ → ℕ → ℕ → List ℕ
row id delay cost period deadline = id ∷ delay ∷ (word_bytes cost ++ (word_bytes period ++ word_bytes deadline))
