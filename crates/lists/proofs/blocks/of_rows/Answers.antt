use Prim.Native.Nat.{ℕ, ◌≤◌}
use mathlib.Core.Path.{◌≡◌, ap, ◌∙◌}
use mathlib.Core.List.{List}
use native.Mathlib.Omega.{arith}
use lib.ListN.{length, take, length-take}
use Rattle.records.specs.Limits.{most_jobs}
use Rattle.lists.specs.Rows.{given, range_of}
use Rattle.std.specs.Result.{result_unwrap_or}
use Rattle.lists.proofs.Blocking.{rows-block}
use Rattle.lists.proofs.RowByRow.{unmapped}
use borrow.Author.Rules.{rules}
use Rattle.lists.proofs.blocks.of_rows.Goals as goal
use Rattle.lists.proofs.blocks.of_rows.Goals.{Start}

few : (c : Start) → length (take c.args.read.count c.args.read.rows) ≤ most_jobs
few c = let size : length c.args.read.rows ≡ most_jobs = search (rules, unmapped) in omega (arith, length-take c.args.read.count c.args.read.rows)

pub returns : goal.returns
returns c =
    let read = c.args.read in
    let b = rows-block c.args.form (take read.count read.rows) _ (few (goal.at.returns c).Start) (search rules) c.put_rows.result c.put_rows.new.output c.put_rows.ensures in
    let small : result_unwrap_or c.put_rows.result 0 ≤ 64 = b.1 in
    let size = c.unwrap_or-size.ensures in (
      ap (λ (l : List ℕ). given (record { block = l; at = take read.count read.at; range = range_of read.range }))
          (ap (λ (k : ℕ). take k c.put_rows.new.output) size ∙ b.0),
      omega (arith, size, small),
    )
