use native.Mathlib.Omega.{arith}
use Rattle.reasons.specs.Reasons.{lowest_top}
use borrow.Author.Rules.{rules}
use Rattle.reasons.proofs.kernels.lowest_top.Goals as goal

pub returns-then-values-jobs : goal.returns-then-values-jobs
unfolding lowest_top
returns-then-values-jobs c = omega (arith, c.if-values-jobs.true)

pub returns : goal.returns
unfolding lowest_top
returns c = search rules
