use Prim.Native.Nat.{ℕ, ◌*◌, ◌≤◌}
use mathlib.Core.Path.{◌≡◌}
use mathlib.Core.List.{List}
use lib.ListN.{drop}
use Rattle.writing.specs.Templates.{filled_from, filled, Wrote}
use Rattle.writing.proofs.put_filled.Given as goal

abbrev pub invariant-loop-byte : goal.invariant-loop-byte
invariant-loop-byte l = (l.used ≤ l.byte-index)
    × ((done : List ℕ) × Wrote (10 * l.byte-index) l.initial.buffer l.buffer l.at l.next done × (filled_from l.numbers done (drop l.byte-index l.template) l.used ≡ filled l.template l.numbers))
