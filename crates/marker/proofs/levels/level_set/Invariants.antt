use Rattle.sets.specs.Sets.{Collects}
use Rattle.marker.specs.Relations.{stands}
use Rattle.marker.proofs.levels.level_set.Given as goal

abbrev pub invariant-loop-i : goal.invariant-loop-i
invariant-loop-i l = Collects l.i (stands l.relation l.fn.settings l.level) l.set
