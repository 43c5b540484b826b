use Prim.Native.Nat.{◌*◌}
use lib.ListN.{length}
use Rattle.writing.specs.Templates.{rows_to, Wrote}
use Rattle.text.specs.Keys.{job_line}
use Rattle.text.proofs.key.put_jobs.Given as goal

abbrev pub invariant-loop-setting : goal.invariant-loop-setting
invariant-loop-setting l = Wrote (100 * length l.yielded) l.initial.output l.output 0 l.at (rows_to (job_line l.fn.settings l.fn.bounds) (length l.yielded))
