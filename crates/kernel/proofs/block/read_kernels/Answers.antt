use Prim.Native.Nat.{ℕ}
use mathlib.Core.Path.{◌≡◌, sym, ap, ◌∙◌}
use mathlib.Core.List.{List}
use native.Mathlib.Omega.{arith}
use lib.ListN.{length, take}
use Rattle.std.proofs.lemmas.Result.{err_from_is_err_and}
use Rattle.records.specs.Limits.{most_jobs}
use Rattle.records.specs.Refusals.{Tests, verdict, answer}
use Rattle.records.specs.Jobs.{listed}
use Rattle.records.specs.declared.job.Job.{Job}
use Rattle.records.proofs.FixedWidth.{cut-take, cut-length}
use Rattle.records.proofs.BlockReading.{block_size, block-turned, block_read}
use Rattle.kernel.specs.declared.record.KernelRecord.{KernelRecord}
use Rattle.kernel.specs.KernelRecords.{kernel_size, kernel_of, blank_kernel, kernel_table, kernels_in}
use Rattle.kernel.specs.KernelConfiguration.{kernel_tests}
use Rattle.kernel.specs.Conversions.{read_kernels}
use borrow.Author.Rules.{rules}
use Rattle.kernel.proofs.block.read_kernels.Goals as goal
use Rattle.kernel.proofs.block.read_kernels.Goals.{After-at_most-count, After-judge_kernels}

-- The list of jobs, and their number.
module _ (c : After-at_most-count) where
  abbrev jobs : List Job
  jobs = listed c.args.call.jobs

  abbrev block : List ℕ
  block = c.args.kernel.now

  abbrev tests : List KernelRecord → Tests
  tests records = kernel_tests jobs c.args.call.range.low c.args.call.range.high c.args.highest records

  size : length jobs ≡ c.at_most-count.result
  size =
      let a = c.args in
      cut-length a.call.jobs.table most_jobs a.call.jobs.count _ (search rules) c.at_most-count.ensures

pub returns-then-kernel-count : goal.returns-then-kernel-count
unfolding read_kernels
returns-then-kernel-count c =
    let a = (goal.at.returns-then-kernel-count c).After-at_most-count in
    block_size kernel_size kernel_of blank_kernel most_jobs (length (jobs a)) (block a) (tests a) _ (size a) c.if-kernel-count.true

-- What was read, and what was judged for the list of jobs.
module _ (c : After-judge_kernels) where
  abbrev count : ℕ
  count = c.at_most-count.result

  made : c.read-table.result ≡ kernel_table (kernels_in count (block (goal.at.After-judge_kernels c).After-at_most-count))
  made =
      c.read-table.ensures
      ∙ ap (λ (n : ℕ). kernel_table (kernels_in n (block (goal.at.After-judge_kernels c).After-at_most-count))) (omega (arith, c.if-kernel-count.false, c.at_most-count.ensures))

  judged : verdict c.judge_kernels.result ≡ answer (tests (goal.at.After-judge_kernels c).After-at_most-count (take count c.read-table.result)) tt
  judged =
      let a = (goal.at.After-judge_kernels c).After-at_most-count in
      c.judge_kernels.ensures
      ∙ ap (λ (l : List KernelRecord). answer (tests a l) tt) (sym (cut-take c.read-table.result most_jobs c.args.call.jobs.count count (search rules) c.at_most-count.ensures))

pub returns-in_err-judge_kernels : goal.returns-in_err-judge_kernels
unfolding read_kernels
returns-in_err-judge_kernels c =
    let a = (goal.at.returns-in_err-judge_kernels c).After-at_most-count in
    let j = (goal.at.returns-in_err-judge_kernels c).After-judge_kernels in
    let p = err_from_is_err_and c.from_residual.result c.from_residual.ensures.1 in
    rw (p.1, p.2)
    (block-turned kernel_size kernel_of blank_kernel most_jobs (length (jobs a)) (block a) (tests a) _ (size a) c.if-kernel-count.false _ (made j) _ (judged j) _ c.in_err-judge_kernels.was)

pub returns : goal.returns
unfolding read_kernels
returns c =
    let a = (goal.at.returns c).After-at_most-count in
    let j = (goal.at.returns c).After-judge_kernels in
    block_read kernel_size kernel_of blank_kernel most_jobs (length (jobs a)) (block a) (tests a) _ (size a) c.if-kernel-count.false _ (made j) _ (judged j) _ c.in_ok-judge_kernels.was
