use Prim.Native.Nat.{ℕ, ◌≤◌}
use mathlib.Core.Path.{◌≡◌}
use mathlib.Core.List.{List}
use lib.ListN.{length, drop}
use Rattle.records.specs.Records.{table}
use Rattle.lists.specs.Words.{words}
use Rattle.lists.specs.Rows.{limits_of, fields_from, read_fields}
use Rattle.lists.proofs.fields.read_fields.Given as goal

abbrev pub invariant-loop-i : goal.invariant-loop-i
invariant-loop-i l = (l.at ≤ length l.content)
    × ((seen : List ℕ) × (length seen ≡ l.i) × (l.numbers ≡ table 5 0 seen) × (fields_from l.form seen (drop l.i (limits_of l.form)) (words (drop l.at l.content)) ≡ read_fields l.form (words (drop l.from l.content))))
