use native.Mathlib.Omega.{arith}
use borrow.Author.Tests.{lt-leb, le-leb}
use Rattle.limits.proofs.judge_limits.Goals as goal

pub returns-then-limits-n : goal.returns-then-limits-n
returns-then-limits-n c =
    let a = c.args in
    simp (lt-leb a.n a.limits.jobs (omega (arith, c.if-limits-n.true)))

pub returns-then-limits-high : goal.returns-then-limits-high
returns-then-limits-high c =
    let a = c.args in
    simp (le-leb a.n a.limits.jobs (omega (arith, c.if-limits-n.false)), lt-leb a.high a.limits.quantum (omega (arith, c.if-limits-high.true)))

pub returns : goal.returns
returns c =
    let a = c.args in
    simp (le-leb a.n a.limits.jobs (omega (arith, c.if-limits-n.false)), le-leb a.high a.limits.quantum (omega (arith, c.if-limits-high.false)))
