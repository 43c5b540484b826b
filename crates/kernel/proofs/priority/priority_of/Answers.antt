use Prim.Native.Nat.{ℕ}
use mathlib.Core.Path.{ap}
use native.Mathlib.Omega.{arith}
use Rattle.kernel.specs.declared.priority.KernelPriority.{KernelPriority}
use Rattle.kernel.proofs.priority.priority_of.Goals as goal

abbrev priority : ℕ → KernelPriority
priority p = record { 0 = p }

pub returns-then-level-lt1 : goal.returns-then-level-lt1
returns-then-level-lt1 c = ap priority (omega arith)

pub returns-then-highest-below : goal.returns-then-highest-below
returns-then-highest-below c = ap priority (omega arith)
