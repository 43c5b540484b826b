use mathlib.Core.Path.{◌≡◌}
use native.Mathlib.Omega.{arith}
use lib.ListN.{length, take}
use lib.Seq.{get_or-take, length-take-le}
use Rattle.records.specs.Records.{flat}
use Rattle.records.proofs.FixedWidth.{write-next}
use Rattle.breakdown.specs.Breakdowns.{parts_size, parts_bytes}
use Rattle.response.specs.Breakdown.{no_parts}
use Rattle.breakdown.proofs.Holding.{parts-width}
use borrow.Author.Rules.{rules}
use Rattle.breakdown.proofs.bytes.encode.Goals as goal
use Rattle.breakdown.proofs.bytes.encode.Goals.{Start}

-- The records that the loop goes through.
size : (c : Start) → length (take c.args.n c.args.table) ≡ c.args.n
size c = length-take-le c.args.n c.args.table (search rules)

pub loop-i-init : goal.loop-i-init
unfolding flat
loop-i-init c = search rules

pub loop-i-preserved : goal.loop-i-preserved
loop-i-preserved c =
    let l = c.loop-i in
    let a = c.args in
    let put = c.put_parts in
    let own = get_or-take a.n a.table l.i no_parts (omega (arith, size (goal.at.loop-i-preserved c).Start)) in
    (search rules, write-next parts_bytes parts_size parts-width l.i a.table no_parts a.output.now l.output put.new.output (search rules) l.invariant.1 (rw (← own) put.ensures))
