use mathlib.Core.Path.{◌≡◌}
use mathlib.Core.Bool.{cond}
use Rattle.sets.specs.Places.{list_of}
use Rattle.sets.specs.Sets.{has}
use Rattle.records.specs.Limits.{most_jobs}
use Rattle.records.specs.Records.{table}
use Rattle.planner.proofs.quanta.lowest_quanta.Given as goal

abbrev pub invariant-loop-i : goal.invariant-loop-i
invariant-loop-i l = l.quantum-items ≡ table most_jobs 0 (list_of (λ k. cond (has l.set k) l.low 0) l.i)
