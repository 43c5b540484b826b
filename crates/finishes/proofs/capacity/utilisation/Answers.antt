use mathlib.Core.Path.{sym}
use native.Mathlib.Nat.{div-zero}
use native.Mathlib.Omega.{arith}
use Rattle.finishes.specs.Finishes.{utilisation}
use Rattle.finishes.proofs.capacity.utilisation.Goals as goal

pub returns-then-job-eq0 : goal.returns-then-job-eq0
unfolding utilisation
returns-then-job-eq0 c = (sym (simp (c.if-job-eq0.true, div-zero)), omega arith)

pub returns : goal.returns
unfolding utilisation
returns c = (c.min.ensures, omega (arith, c.min.ensures))
