use Prim.Native.Nat.{◌<◌}
use mathlib.Core.Path.{◌≡◌, ap, ◌∙◌}
use native.Mathlib.Omega.{arith}
use borrow.Author.Rules.{rules}
use lib.ListN.{length, length-take}
use lib.Seq.{get_or-take}
use Rattle.records.specs.Limits.{most_jobs}
use Rattle.records.proofs.Mapped.{table-next, table-all}
use Rattle.lists.proofs.RowByRow.{unmapped}
use Rattle.lists.proofs.tables.table_from.Given.{Over}
use Rattle.lists.proofs.tables.table_from.Goals as goal
use Rattle.lists.proofs.tables.table_from.Goals.{Start}

size : (g : Over) (c : Start g) → length c.args.rows ≡ most_jobs
size g c = search (rules, unmapped)

pub loop-i-preserved : goal.loop-i-preserved
loop-i-preserved g c =
    let rows = c.args.rows in
    let count = c.at_most.result in
    let inside : c.loop-i.i < count = omega (arith, c.loop-i-test.true, length-take count rows) in
    table-next g.R.FromRow.from g.R.FromRow.BLANK rows most_jobs (size g (goal.at.loop-i-preserved g c).Start) c.loop-i.i c.loop-i.table c.from_row.result _ (omega (arith, inside, c.at_most.ensures)) c.loop-i.invariant (c.from_row.ensures ∙ ap g.R.FromRow.from (get_or-take count rows c.loop-i.i _ inside))

pub returns : goal.returns
returns g c =
    let rows = c.args.rows in
    let count = c.at_most.result in
    let long = size g (goal.at.returns g c).Start in
    c.loop-i.invariant
    ∙ table-all g.R.FromRow.from g.R.FromRow.BLANK rows most_jobs long c.args.n count c.loop-i.i c.at_most.ensures (omega (arith, c.loop-i-test.false, c.loop-i.auto.i-end, c.at_most.ensures, long, length-take count rows))
