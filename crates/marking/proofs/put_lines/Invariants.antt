use Prim.Native.Nat.{◌*◌}
use lib.ListN.{length}
use Rattle.writing.specs.Templates.{rows_to, Wrote}
use Rattle.marking.specs.Marks.{mark_line}
use Rattle.marking.proofs.put_lines.Given as goal

abbrev pub invariant-loop-job : goal.invariant-loop-job
invariant-loop-job l = Wrote (370 * length l.yielded) l.initial.output l.output 0 l.at (rows_to (mark_line l.fn.jobs l.fn.bounds) (length l.yielded))
