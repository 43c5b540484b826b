use Prim.Native.Nat.{◌+◌, ◌≤◌}
use mathlib.Core.Path.{◌≡◌}
use mathlib.Core.Bool.{cond}
use lib.ListN.{length}
use Rattle.lists.specs.Rows.{given, read_lines, read_text, rows_in}
use Rattle.lists.proofs.RowByRow.{lines_left}
use Rattle.lists.proofs.rows.read_rows.Given as goal

-- The lines that are left come to what the text does.
abbrev pub invariant-loop-line : goal.invariant-loop-line
invariant-loop-line l = (l.number + cond l.line-iterator.done 0 (length l.line-iterator.rest.now + 1) ≤ length l.text + 1)
    × (read_lines l.form (l.number + 1) (given (rows_in l.read)) (lines_left l.line-iterator.done l.line-iterator.rest.now) ≡ read_text l.form l.text)
