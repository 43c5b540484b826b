use Prim.Native.Nat.{◌*◌}
use lib.ListN.{length}
use Rattle.writing.specs.Templates.{rows_to, Wrote}
use Rattle.marking.specs.Marks.{over_text}
use Rattle.marking.proofs.put_overs.Given as goal

abbrev pub invariant-loop-job : goal.invariant-loop-job
invariant-loop-job l = Wrote (20 * length l.yielded) l.initial.output l.output l.fn.from l.at (rows_to (over_text l.fn.jobs l.fn.bounds) (length l.yielded))
