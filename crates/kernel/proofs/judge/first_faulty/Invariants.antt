use mathlib.Core.Path.{◌≡◌}
use mathlib.Core.Bool.{true}
use Rattle.sets.specs.Places.{every}
use Rattle.kernel.specs.KernelConfiguration.{kernel_ok}
use Rattle.kernel.proofs.judge.first_faulty.Given as goal

abbrev pub invariant-loop-i : goal.invariant-loop-i
invariant-loop-i l = every (kernel_ok l.rule l.count l.jobs l.call.range.low l.call.range.high l.highest l.kernels) l.i ≡ true
