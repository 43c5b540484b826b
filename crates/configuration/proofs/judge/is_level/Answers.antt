use borrow.Author.Tests.{lt-leb, le-leb}
use Rattle.configuration.specs.Configuration.{placed_level}
use Rattle.configuration.proofs.judge.is_level.Goals as goal

pub returns-then-level-lt1 : goal.returns-then-level-lt1
unfolding placed_level
returns-then-level-lt1 c = simp (lt-leb _ _ c.if-level-lt1.true)

pub returns : goal.returns
unfolding placed_level
returns c = simp (le-leb _ _ c.if-level-lt1.false)
