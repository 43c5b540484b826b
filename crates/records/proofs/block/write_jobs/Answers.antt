use Prim.Native.Nat.{ℕ, ◌*◌, ◌≤◌}
use mathlib.Core.Path.{◌≡◌, sym, ap, ◌∙◌}
use lib.ListN.{length, take}
use lib.Seq.{length-take-le}
use native.Mathlib.Omega.{arith}
use borrow.Author.Tests.{leb-true}
use Rattle.std.proofs.lemmas.Result.{err_from_is_err_and}
use Rattle.records.specs.Limits.{most_jobs}
use Rattle.records.specs.Refusals.{outcome}
use Rattle.records.specs.Records.{written, room_tests, write_records}
use Rattle.records.specs.Jobs.{job_size, job_bytes, table_tests, write_jobs}
use Rattle.records.proofs.Outcomes.{turned_by, passed-by, judged-accepts}
use borrow.Author.Rules.{rules}
use Rattle.records.proofs.block.write_jobs.Goals as goal

pub returns-in_err-judge_table : goal.returns-in_err-judge_table
unfolding write_jobs
returns-in_err-judge_table c =
    let a = c.args in
    let output = a.output.now in
    let p = err_from_is_err_and c.from_residual.result c.from_residual.ensures.1 in
    rw (p.1, p.2)
    (sym (turned_by (table_tests a.n a.table) c.judge_table.result c.judge_table.ensures (room_tests (job_size * a.n) (length output)) (job_size * a.n) (written job_size job_bytes (take a.n a.table) output) output _ c.in_err-judge_table.was))

pub returns : goal.returns
unfolding write_records write_jobs
returns c =
    let a = c.args in
    let output = a.output.now in
    let new = written job_size job_bytes (take a.n a.table) output in
    let few : a.n ≤ most_jobs = leb-true _ _ (judged-accepts (table_tests a.n a.table) c.judge_table.result c.judge_table.ensures _ c.in_ok-judge_table.was).1.0 in
    let all : length a.table ≡ most_jobs = search rules in
    c.write.ensures
    ∙ ap (λ (m : ℕ). outcome (room_tests (job_size * m) (length output)) (job_size * m) new output) (length-take-le a.n a.table (omega arith))
    ∙ sym (passed-by (table_tests a.n a.table) c.judge_table.result c.judge_table.ensures (room_tests (job_size * a.n) (length output)) (job_size * a.n) new output _ c.in_ok-judge_table.was)
