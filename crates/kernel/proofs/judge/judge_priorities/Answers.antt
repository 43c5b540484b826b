use native.Mathlib.Omega.{arith}
use borrow.Author.Tests.{lt-leb, le-leb}
use Rattle.kernel.specs.Priorities.{spanned}
use Rattle.kernel.proofs.judge.judge_priorities.Goals as goal

pub returns-then-highest-lowest : goal.returns-then-highest-lowest
returns-then-highest-lowest c = simp (lt-leb _ _ c.if-highest-lowest.true)

pub returns-then-values-n : goal.returns-then-values-n
returns-then-values-n c =
    let a = c.args in
    simp (le-leb _ _ c.if-highest-lowest.false, lt-leb a.n (spanned a.lowest a.highest) (omega (arith, c.if-values-n.true, c.if-highest-lowest.false)))

pub returns : goal.returns
returns c =
    let a = c.args in
    simp (le-leb _ _ c.if-highest-lowest.false, le-leb a.n (spanned a.lowest a.highest) (omega (arith, c.if-values-n.false, c.if-highest-lowest.false)))
