use Prim.Native.Nat.{ℕ, ◌≤◌, ◌*◌}
use mathlib.Core.Path.{◌≡◌, sym, ap, ◌∙◌}
use mathlib.Core.List.{List, []}
use native.Mathlib.Omega.{arith}
use lib.ListN.{length}
use borrow.Author.Tests.{leb-true}
use Rattle.std.proofs.lemmas.Result.{err_from_is_err_and}
use Rattle.records.specs.Limits.{most_jobs}
use Rattle.records.specs.Refusals.{Tests, verdict, answer, outcome}
use Rattle.records.specs.Jobs.{job_size, job_table, size_tests, job_tests, job_count, jobs_in, job_list, read_jobs}
use Rattle.records.specs.declared.job.Job.{Job}
use Rattle.records.proofs.Outcomes.{turned_by, passed-by, judged-accepts}
use Rattle.records.proofs.JobTests.{tests-table}
use Rattle.records.proofs.block.read_jobs.Goals as goal
use Rattle.records.proofs.block.read_jobs.Goals.{In_ok-judge_size, After-judge_jobs}

-- The tests after those of the size.
abbrev record_tests : List ℕ → Tests
record_tests s = job_tests (job_count s) (job_list s)

pub returns-in_err-judge_size : goal.returns-in_err-judge_size
unfolding read_jobs
returns-in_err-judge_size c =
    let s = c.args.jobs.now in
    let p = err_from_is_err_and c.from_residual.result c.from_residual.ensures.1 in
    rw (p.1, p.2) (sym (turned_by (size_tests (length s)) c.judge_size.result c.judge_size.ensures (record_tests s) (job_count s) (job_table (job_list s)) (job_table []) _ c.in_err-judge_size.was))

-- Past refusal 1.
module _ (c : In_ok-judge_size) where
  abbrev block : List ℕ
  block = c.args.jobs.now

  most : length block ≤ most_jobs * job_size
  most = leb-true _ _ (judged-accepts (size_tests (length block)) c.judge_size.result c.judge_size.ensures _ c.in_ok-judge_size.was).1.0

  on : read_jobs block ≡ outcome (record_tests block) (job_count block) (job_table (job_list block)) (job_table [])
  unfolding read_jobs
  on =
      passed-by (size_tests (length block)) c.judge_size.result c.judge_size.ensures (record_tests block) (job_count block) (job_table (job_list block)) (job_table [])
      _ c.in_ok-judge_size.was

pub judge_jobs-requires : goal.judge_jobs-requires
judge_jobs-requires c = omega (arith, most (goal.at.judge_jobs-requires c).In_ok-judge_size)

-- What was judged are the jobs of the block.
module _ (c : After-judge_jobs) where
  abbrev count : ℕ
  count = job_count (block (goal.at.After-judge_jobs c).In_ok-judge_size)

  all-read : c.read-table.result ≡ job_table (job_list (block (goal.at.After-judge_jobs c).In_ok-judge_size))
  all-read =
      c.read-table.ensures
      ∙ ap (λ (n : ℕ). job_table (jobs_in n (block (goal.at.After-judge_jobs c).In_ok-judge_size)))
      (let few = most (goal.at.After-judge_jobs c).In_ok-judge_size in omega arith)

  judged : verdict c.judge_jobs.result ≡ answer (record_tests (block (goal.at.After-judge_jobs c).In_ok-judge_size)) tt
  judged =
      c.judge_jobs.ensures
      ∙ ap (λ (t : List Job). answer (job_tests count t) tt) all-read
      ∙ ap (λ (t : Tests). answer t tt) (tests-table count (job_list (block (goal.at.After-judge_jobs c).In_ok-judge_size)))

pub returns-in_err-judge_jobs : goal.returns-in_err-judge_jobs
returns-in_err-judge_jobs c =
    let s = block (goal.at.returns-in_err-judge_jobs c).In_ok-judge_size in
    let p = err_from_is_err_and c.from_residual-in_err-judge_jobs.result c.from_residual-in_err-judge_jobs.ensures.1 in
    rw (p.1, p.2)
    (sym (on (goal.at.returns-in_err-judge_jobs c).In_ok-judge_size ∙ turned_by (record_tests s) c.judge_jobs.result (judged (goal.at.returns-in_err-judge_jobs c).After-judge_jobs) [] (job_count s) (job_table (job_list s)) (job_table []) _ c.in_err-judge_jobs.was))

pub returns : goal.returns
returns c =
    let s = block (goal.at.returns c).In_ok-judge_size in
    rw (all-read (goal.at.returns c).After-judge_jobs)
    (sym (on (goal.at.returns c).In_ok-judge_size ∙ passed-by (record_tests s) c.judge_jobs.result (judged (goal.at.returns c).After-judge_jobs) [] (job_count s) (job_table (job_list s)) (job_table []) _ c.in_ok-judge_jobs.was))
