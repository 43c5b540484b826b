use mathlib.Core.Path.{sym}
use borrow.Author.Rules.{rules}
use lib.Bits.{and_mask}
use Rattle.sets.specs.Sets.{places, has}
use Rattle.sets.proofs.Members.{has-high}
use Rattle.sets.proofs.contains.Goals as goal

pub returns-then-job-ge-PLACES : goal.returns-then-job-ge-PLACES
returns-then-job-ge-PLACES c = sym (has-high places c.args.set c.args.job (search rules) c.if-job-ge-PLACES.true)

pub returns : goal.returns
unfolding has
returns c = rw (and_mask _ 1)
