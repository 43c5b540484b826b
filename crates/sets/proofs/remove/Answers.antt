use mathlib.Core.Path.{ap, ◌∙◌}
use Rattle.sets.specs.Sets.{rest, remove}
use Rattle.sets.proofs.remove.Goals as goal

pub returns : goal.returns
unfolding remove
returns c = c.rest.ensures ∙ ap (rest c.args.set) c.single.ensures
