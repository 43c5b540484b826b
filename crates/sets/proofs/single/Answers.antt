use mathlib.Core.Path.{sym}
use native.Mathlib.Nat.{one-mul}
use Rattle.sets.specs.Sets.{single}
use Rattle.sets.proofs.Members.{single-past}
use Rattle.sets.proofs.single.Goals as goal

pub returns-then-job-ge-PLACES : goal.returns-then-job-ge-PLACES
returns-then-job-ge-PLACES c = sym (single-past c.args.job c.if-job-ge-PLACES.true)

pub returns : goal.returns
unfolding single
returns c = rw one-mul
