use borrow.Author.Tests.{not-true}
use mathlib.Core.Path.{sym}
use Rattle.planner.proofs.Asked.{laid, begins, ends, out}
use Rattle.planner.proofs.quanta.quanta_per_job.Goals as goal

pub is_within_reach-requires : goal.is_within_reach-requires
is_within_reach-requires c =
    let a = c.args in
    (laid a.question.now a.left a.set c.requires.0 c.requires.1 c.rest-above.result c.rest-above.ensures, c.lowest_quanta-quanta.ensures)

pub returns-then-not-is_within_reach : goal.returns-then-not-is_within_reach
returns-then-not-is_within_reach c =
    let a = c.args in
    sym (out a.question.now a.left a.set c.requires.0 c.requires.1 c.rest-above.result c.rest-above.ensures (c.is_within_reach.ensures (not-true _ c.if-not-is_within_reach.true-raw)))

pub settle-requires : goal.settle-requires
settle-requires c =
    let a = c.args in
    begins a.question.now a.left a.set c.requires.0 c.requires.1 c.rest-above.result c.rest-above.ensures c.lowest_quanta-quanta.result c.lowest_quanta-quanta.ensures

pub returns : goal.returns
returns c =
    let a = c.args in
    ends a.question.now a.left a.set c.requires.0 c.requires.1 c.rest-above.result c.rest-above.ensures c.lowest_quanta-quanta.result c.settle.result c.settle.ensures
