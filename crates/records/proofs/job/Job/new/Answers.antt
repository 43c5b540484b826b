use mathlib.Core.Path.{sym, ◌∙◌}
use borrow.Author.Tests.{lt-leb, le-leb, not-true, not-false}
use Rattle.records.proofs.job.Job.new.Goals as goal

pub returns-then-id-lt1 : goal.returns-then-id-lt1
returns-then-id-lt1 c = simp (lt-leb _ _ c.if-id-lt1.true)

pub returns-then-not-times_ok : goal.returns-then-not-times_ok
returns-then-not-times_ok c = simp (le-leb _ _ c.if-id-lt1.false, sym c.times_ok.ensures ∙ not-true _ c.if-not-times_ok.true-raw)

pub returns : goal.returns
returns c = simp (le-leb _ _ c.if-id-lt1.false, sym c.times_ok.ensures ∙ not-false _ c.if-not-times_ok.false-raw)
