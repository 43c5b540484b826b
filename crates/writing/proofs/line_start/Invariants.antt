use Prim.Native.Nat.{◌-◌, ◌≤◌}
use mathlib.Core.Path.{◌≡◌}
use lib.ListN.{length, drop}
use Rattle.writing.specs.Templates.{after_lines}
use Rattle.writing.proofs.line_start.Given as goal

abbrev pub invariant-loop-i : goal.invariant-loop-i
invariant-loop-i l = (l.at ≤ length l.text) × (after_lines (l.k - l.i) (drop l.at l.text) ≡ after_lines l.k l.text)
