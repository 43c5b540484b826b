use borrow.Author.Tests.{lt-leb, le-leb}
use Rattle.records.proofs.judge.judge_table.Goals as goal

pub returns-then-n-lt1 : goal.returns-then-n-lt1
returns-then-n-lt1 c = simp (lt-leb _ _ c.if-n-lt1.true)

pub returns-then-n-gt-MOST : goal.returns-then-n-gt-MOST
returns-then-n-gt-MOST c = simp (le-leb _ _ c.if-n-lt1.false, lt-leb _ _ c.if-n-gt-MOST.true)

pub returns : goal.returns
returns c = simp (le-leb _ _ c.if-n-lt1.false, le-leb _ _ c.if-n-gt-MOST.false) c.judge_jobs.ensures
