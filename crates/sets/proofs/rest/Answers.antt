use borrow.Author.Rules.{rules}
use Rattle.sets.specs.Sets.{places}
use Rattle.sets.proofs.Members.{and-not}
use Rattle.sets.proofs.rest.Goals as goal

pub returns : goal.returns
returns c = and-not places c.args.set c.args.part (search rules) (search rules)
