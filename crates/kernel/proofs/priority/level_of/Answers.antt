use Prim.Native.Nat.{ℕ}
use mathlib.Core.Path.{ap}
use native.Mathlib.Omega.{arith}
use Rattle.kernel.specs.declared.priority.Level.{Level}
use Rattle.kernel.proofs.priority.level_of.Goals as goal

abbrev level : ℕ → Level
level v = record { 0 = v }

pub returns-then-highest-priority : goal.returns-then-highest-priority
returns-then-highest-priority c = ap level (omega arith)

pub returns-then-below-gt254 : goal.returns-then-below-gt254
returns-then-below-gt254 c = ap level (omega arith)

pub returns : goal.returns
returns c = ap level (omega arith)
