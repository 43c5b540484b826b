use Prim.Native.Nat.{◌*◌}
use Rattle.writing.specs.Templates.{rows_to, Wrote}
use Rattle.explaining.specs.Explanations.{explain_row}
use Rattle.explaining.proofs.put_jobs.Given as goal

abbrev pub invariant-loop-k : goal.invariant-loop-k
invariant-loop-k l = Wrote (1300 * l.k) l.initial.output l.output 0 l.at (rows_to (explain_row l.jobs l.settings l.parts l.bounds) l.k)
