-- The two round trips of the job block: "Blocks written from accepted jobs read back to them, and every accepted block is what the
-- writer makes of what was read". Assumes nothing.
use Prim.Native.Nat.{ℕ, ◌*◌, ◌%◌, ◌≤◌}
use mathlib.Core.Path.{◌≡◌, sym, ap, ap₂, subst, ◌∙◌}
use mathlib.Core.List.{List, [], ◌++◌}
use native.Mathlib.Omega.{arith}
use lib.ListN.{length, take, drop}
use lib.Seq.{take_at, length-take-le, take_all}
use borrow.Author.Tests.{le-leb, eq-eqb, leb-true, eqb-true}
use Rattle.records.specs.Limits.{most_jobs}
use Rattle.records.specs.Records.{AllBytes, written, room_tests}
use Rattle.records.specs.Refusals.{Answer, given, Tests, Accepts}
use Rattle.records.specs.Jobs.{job_size, job_of, job_bytes, blank_job, job_tests, table_tests, AcceptedJobs, block_tests, job_count, jobs_in, job_list, job_table, read_jobs, bytes_of, write_tests, write_jobs}
use Rattle.records.specs.declared.job.Job.{Job}
use Rattle.records.proofs.Outcomes.{accepts, accepts-both, accepts-first}
use Rattle.records.proofs.FixedWidth.{length-flat, length-chunks, take-table, chunks-flat, flat-chunks}
use Rattle.records.specs.RecordLaws.{job-width}
use Rattle.records.proofs.JobRecords.{job-back, Known, job-again}
use Rattle.records.proofs.JobTests.{accepted-take, tests-table}

-- The bytes of an accepted list of jobs are accepted, and read back to it.
module _ (jobs : List Job) (ok : AcceptedJobs jobs) where
  size : length (bytes_of jobs) ≡ job_size * length jobs
  size = length-flat job_bytes job_size job-width jobs

  counted : job_count (bytes_of jobs) ≡ length jobs
  counted = omega (arith, size)

  listed : job_list (bytes_of jobs) ≡ jobs
  listed = ap (λ (n : ℕ). jobs_in n (bytes_of jobs)) counted ∙ chunks-flat job_size job_bytes job_of job-width job-back jobs

  pub block-accepted : Accepts (block_tests (bytes_of jobs))
  block-accepted =
      let few : 1 ≤ length jobs = leb-true _ _ ok.0 in
      let many : length jobs ≤ most_jobs = leb-true _ _ ok.1.0 in
      let s = bytes_of jobs in
      let t : job_tests (job_count s) (job_list s) ≡ job_tests (length jobs) jobs = ap₂ job_tests counted listed in (
        le-leb 1 (length s) (omega (arith, size)),
        (
          le-leb (length s) (most_jobs * job_size) (omega (arith, size)),
          (
            eq-eqb (length s % job_size) 0 (omega (arith, size)),
            subst (λ (tests : Tests). Accepts tests) (sym t) ok.1.1,
          ),
        ),
      )

  pub read-bytes : read_jobs (bytes_of jobs) ≡ (given (length jobs), job_table jobs)
  unfolding read_jobs
  read-bytes =
      accepts _ _ _ (block_tests (bytes_of jobs)) block-accepted
      ∙ ap₂ (λ (n : ℕ) (js : List Job). (given n, job_table js)) counted listed

-- What the writer makes of an accepted table is read back to the table.
pub read-written : (n : ℕ) (jobs : List Job) (output : List ℕ) → n ≤ length jobs → Accepts (write_tests n jobs (length output))
    → read_jobs (take (job_size * n) (write_jobs n jobs output).1) ≡ (given n, job_table (take n jobs))
unfolding write_jobs
read-written n jobs output h ok =
    let list = take n jobs in
    let m : length list ≡ n = length-take-le n jobs h in
    let l : length (bytes_of list) ≡ job_size * n = length-flat job_bytes job_size job-width list ∙ ap (λ (k : ℕ). job_size * k) m in
    let fine : AcceptedJobs list = accepted-take n jobs h (accepts-first (table_tests n jobs) (room_tests (job_size * n) (length output)) ok) in
    let new : (write_jobs n jobs output).1 ≡ written job_size job_bytes list output =
    ap (λ (x : Answer ℕ × List ℕ). x.1) (accepts (job_size * n) (written job_size job_bytes list output) output (write_tests n jobs (length output)) ok) in
    ap (λ (x : List ℕ). read_jobs (take (job_size * n) x)) new
    ∙ ap read_jobs (take_at (bytes_of list) (drop (job_size * length list) output) (job_size * n) l)
    ∙ read-bytes list fine
    ∙ ap (λ (k : ℕ). (given k, job_table list)) m

-- An accepted block is what the writer makes of what was read, whatever the output held.
pub write_read : (block output : List ℕ) → AllBytes block → length block ≤ length output → Accepts (block_tests block)
    → write_jobs (job_count block) (read_jobs block).1 output ≡ (given (length block), block ++ drop (length block) output)
unfolding read_jobs write_jobs
write_read block output bytes fit ok =
    let n = job_count block in
    let jobs = job_list block in
    let few : 1 ≤ length block = leb-true _ _ ok.0 in
    let many : length block ≤ most_jobs * job_size = leb-true _ _ ok.1.0 in
    let whole : length block % job_size ≡ 0 = eqb-true _ _ ok.1.1.0 in
    let size : job_size * n ≡ length block = omega arith in
    let list : take n (job_table jobs) ≡ jobs = take-table most_jobs blank_job n jobs (length-chunks job_size job_of n block) in
    let known : Known n block = record { room = omega arith; bytes = bytes } in
    let same : bytes_of jobs ≡ block = flat-chunks job_size job_bytes job_of Known job-again n block known ∙ take_all (job_size * n) block (omega arith) in
    let tests : Accepts (job_tests n (job_table jobs)) = subst (λ (t : Tests). Accepts t) (sym (tests-table n jobs)) ok.1.1.1 in
    let room = room_tests (job_size * n) (length output) in
    let all : Accepts (write_tests n (job_table jobs) (length output)) =
    accepts-both (table_tests n (job_table jobs)) room (le-leb 1 n (omega arith), (le-leb n most_jobs (omega arith), tests)) (le-leb (job_size * n) (length output) (omega arith), tt) in
    ap (λ (x : List Job). write_jobs n x output) (ap (λ (x : Answer ℕ × List Job). x.1) (accepts n (job_table jobs) (job_table []) (block_tests block) ok))
    ∙ accepts (job_size * n) (written job_size job_bytes (take n (job_table jobs)) output) output (write_tests n (job_table jobs) (length output)) all
    ∙ ap (λ (x : List Job). (given (job_size * n), written job_size job_bytes x output)) list
    ∙ ap (λ (k : ℕ). (given (job_size * n), bytes_of jobs ++ drop (job_size * k) output)) (length-chunks job_size job_of n block)
    ∙ ap₂ (λ (k : ℕ) (x : List ℕ). (given k, x ++ drop k output)) size same
