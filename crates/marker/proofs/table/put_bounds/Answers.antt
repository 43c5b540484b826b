use native.Mathlib.Omega.{arith}
use Rattle.std.proofs.lemmas.Result.{err_from_is_err_and}
use borrow.Author.Rules.{rules}
use Rattle.marker.proofs.Tabled.{bounds-turned, bounds-done, bounds-refused}
use Rattle.marker.proofs.table.put_bounds.Goals as goal

pub returns-in_err-write-clause-written : goal.returns-in_err-write-clause-written
returns-in_err-write-clause-written c =
    let a = c.args in
    let p = err_from_is_err_and c.from_residual.result c.from_residual.ensures.1 in
    rw (p.1, p.2)
    (bounds-turned a.jobs.table a.settings a.jobs.count c.at_most-count.result (search rules) c.at_most-count.ensures c.bounds_of-bounds.result c.bounds_of-bounds.ensures a.output.now c.write.new.output c.write.result c.write.ensures _ c.in_err-write.was)

pub returns-clause-written : goal.returns-clause-written
returns-clause-written c =
    let a = c.args in
    bounds-done a.jobs.table a.settings a.jobs.count c.at_most-count.result (search rules) c.at_most-count.ensures c.bounds_of-bounds.result c.bounds_of-bounds.ensures a.output.now c.write.new.output c.write.result c.write.ensures _ c.in_ok-write.was

pub overflow_mul-count : goal.overflow_mul-count
overflow_mul-count c = omega (arith, c.at_most-count.ensures)

pub returns-then-output-count-clause-written : goal.returns-then-output-count-clause-written
returns-then-output-count-clause-written c =
    let a = c.args in
    bounds-refused a.jobs.table a.settings a.jobs.count c.at_most-count.result (search rules) c.at_most-count.ensures a.output.now c.if-output-count.true
