use Rattle.sets.specs.Sets.{insert}
use Rattle.sets.proofs.insert.Goals as goal

pub returns : goal.returns
unfolding insert
returns c = rw c.single.ensures
