use Prim.Native.Nat.{◌≤◌}
use mathlib.Core.Path.{◌≡◌}
use Rattle.configuration.specs.Configuration.{sharing}
use Rattle.configuration.proofs.judge.on_level.Given as goal

abbrev pub invariant-loop-i : goal.invariant-loop-i
invariant-loop-i l = (l.jobs ≤ l.i) × (l.jobs ≡ sharing l.i l.settings l.level)
