use Rattle.records.specs.Records.{long_bytes, flat}
use Rattle.records.proofs.FixedWidth.{write-next, long-width}
use borrow.Author.Rules.{rules}
use Rattle.breakdown.proofs.bytes.put_amounts.Goals as goal

pub loop-i-init : goal.loop-i-init
unfolding flat
loop-i-init c = search rules

pub loop-i-preserved : goal.loop-i-preserved
loop-i-preserved c =
    let l = c.loop-i in
    let a = c.args in
    let put = c.put_long in
    (search rules, write-next long_bytes 4 long-width l.i a.amounts 0 a.output.now l.output put.new.output (search rules) l.invariant.1 put.ensures)
