use native.Mathlib.Omega.{arith}
use borrow.Author.Tests.{lt-ltb, le-ltb}
use Rattle.runs.specs.Runs.{runs_on}
use Rattle.runs.proofs.runs_on.Goals as goal

pub returns-then-quantum-gt0 : goal.returns-then-quantum-gt0
unfolding runs_on
returns-then-quantum-gt0 c = simp (lt-ltb 0 c.args.quantum (omega (arith, c.if-quantum-gt0.true)))

pub returns-else-quantum-gt0 : goal.returns-else-quantum-gt0
unfolding runs_on
returns-else-quantum-gt0 c = simp (le-ltb 0 c.args.quantum (omega (arith, c.if-quantum-gt0.false)))
