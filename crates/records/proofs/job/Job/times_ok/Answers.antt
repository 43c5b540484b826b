use borrow.Author.Tests.{lt-leb, le-leb}
use Rattle.records.specs.Jobs.{times_ok}
use Rattle.records.proofs.job.Job.times_ok.Goals as goal

pub returns-then-cost-lt1 : goal.returns-then-cost-lt1
unfolding times_ok
returns-then-cost-lt1 c = simp (lt-leb _ _ c.if-cost-lt1.true)

pub returns-then-deadline-cost : goal.returns-then-deadline-cost
unfolding times_ok
returns-then-deadline-cost c = simp (le-leb _ _ c.if-cost-lt1.false, lt-leb _ _ c.if-deadline-cost.true)

pub returns-then-period-cost : goal.returns-then-period-cost
unfolding times_ok
returns-then-period-cost c = simp (le-leb _ _ c.if-cost-lt1.false, le-leb _ _ c.if-deadline-cost.false, lt-leb _ _ c.if-period-cost.true)

pub returns-then-period-gt-LONGEST_PERIOD : goal.returns-then-period-gt-LONGEST_PERIOD
unfolding times_ok
returns-then-period-gt-LONGEST_PERIOD c =
    simp (le-leb _ _ c.if-cost-lt1.false, le-leb _ _ c.if-deadline-cost.false, le-leb _ _ c.if-period-cost.false, lt-leb _ _ c.if-period-gt-LONGEST_PERIOD.true)

pub returns : goal.returns
unfolding times_ok
returns c =
    simp (le-leb _ _ c.if-cost-lt1.false, le-leb _ _ c.if-deadline-cost.false, le-leb _ _ c.if-period-cost.false, le-leb _ _ c.if-period-gt-LONGEST_PERIOD.false)
