use mathlib.Core.Path.{◌≡◌}
use mathlib.Core.Bool.{true}
use Rattle.sets.specs.Places.{every}
use Rattle.records.specs.Jobs.{id_before, job_ok_at}
use Rattle.records.proofs.judge.first_faulty.Given as goal

abbrev pub invariant-loop-i : goal.invariant-loop-i
invariant-loop-i l = (l.before ≡ id_before l.table l.i) × (every (job_ok_at l.rule l.table) l.i ≡ true)
