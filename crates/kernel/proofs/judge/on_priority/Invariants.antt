use Prim.Native.Nat.{◌≤◌}
use mathlib.Core.Path.{◌≡◌}
use Rattle.kernel.specs.KernelConfiguration.{sharing_priority}
use Rattle.kernel.proofs.judge.on_priority.Given as goal

abbrev pub invariant-loop-i : goal.invariant-loop-i
invariant-loop-i l = (l.jobs ≤ l.i) × (l.jobs ≡ sharing_priority l.i l.kernels l.priority.0)
