use borrow.Author.Tests.{lt-leb, le-leb, eq-eqb, ne_eqb}
use Rattle.records.proofs.judge.judge_size.Goals as goal

pub returns-then-size-lt1 : goal.returns-then-size-lt1
returns-then-size-lt1 c = simp (lt-leb _ _ c.if-size-lt1.true)

pub returns-then-size : goal.returns-then-size
returns-then-size c = simp (le-leb _ _ c.if-size-lt1.false, lt-leb _ _ c.if-size.true)

pub returns-then-size-ne0 : goal.returns-then-size-ne0
returns-then-size-ne0 c = simp (le-leb _ _ c.if-size-lt1.false, le-leb _ _ c.if-size.false, ne_eqb _ _ c.if-size-ne0.true)

pub returns : goal.returns
returns c = simp (le-leb _ _ c.if-size-lt1.false, le-leb _ _ c.if-size.false, eq-eqb _ _ c.if-size-ne0.false)
