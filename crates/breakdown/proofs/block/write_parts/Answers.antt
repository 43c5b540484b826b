use Rattle.records.specs.Limits.{most_jobs}
use Rattle.breakdown.specs.Breakdowns.{parts_size, parts_bytes}
use Rattle.records.proofs.FixedWidth.{no_room, room}
use borrow.Author.Rules.{rules}
use Rattle.breakdown.proofs.block.write_parts.Goals as goal

pub returns-then-output-size : goal.returns-then-output-size
returns-then-output-size c =
    let a = c.args in
    no_room parts_size parts_bytes a.parts most_jobs a.n _ (search rules) c.at_most-count.ensures a.output.now (search rules)

pub returns : goal.returns
returns c =
    let a = c.args in
    room parts_size parts_bytes a.parts most_jobs a.n _ (search rules) c.at_most-count.ensures a.output.now (search rules) _ c.encode.ensures
