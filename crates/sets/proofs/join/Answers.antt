use mathlib.Core.Path.{refl}
use Rattle.sets.specs.Sets.{join}
use Rattle.sets.proofs.join.Goals as goal

pub returns : goal.returns
unfolding join
returns c = refl
