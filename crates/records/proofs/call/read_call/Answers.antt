use Prim.Native.Nat.{ℕ}
use mathlib.Core.Path.{◌≡◌, sym, ap, ap₂, ◌∙◌}
use mathlib.Core.List.{List, []}
use lib.ListN.{take}
use Rattle.std.proofs.lemmas.Result.{err_from_is_err_and}
use Rattle.records.specs.Limits.{most_jobs}
use Rattle.records.specs.Refusals.{Answer, given, outcome, answer, handed}
use Rattle.records.specs.Jobs.{blank_job, block_tests, job_count, job_list, job_table, listed}
use Rattle.records.specs.Ranges.{range_of, range_tests, new_range_answer}
use Rattle.records.specs.Calls.{Asked, read_call, question}
use Rattle.records.specs.declared.job.Job.{Job}
use Rattle.records.specs.declared.range.Range.{Range}
use Rattle.records.specs.declared.block.JobTable.{JobTable}
use Rattle.records.proofs.Outcomes.{handed-on, turned_down, gone-past, gives-alike, refuses-alike}
use Rattle.records.proofs.FixedWidth.{take-table}
use Rattle.records.proofs.Reading.{jobs-listed, jobs-read, jobs-told}
use Rattle.records.proofs.call.read_call.Goals as goal
use Rattle.records.proofs.call.read_call.Goals.{After-read_jobs, In_ok-jobs, After-new}

-- The answer part of an outcome.
abbrev told : Answer Asked × Unit {0} → Answer Asked
told x = x.0

-- What was read of the block.
module _ (c : After-read_jobs) where
  abbrev block : List ℕ
  block = c.args.jobs.now

  abbrev low : ℕ
  low = c.args.low

  abbrev high : ℕ
  high = c.args.high

  abbrev asking : Asked
  asking = question block low high

  read : handed c.read_jobs.result (λ j. j.count) ≡ (outcome (block_tests block) (job_count block) (job_table (job_list block)) (job_table [])).0
  read = jobs-told block c.read_jobs.result c.read_jobs.ensures

pub returns-in_err-jobs : goal.returns-in_err-jobs
returns-in_err-jobs c =
    let a = (goal.at.returns-in_err-jobs c).After-read_jobs in
    let s = block a in
    let p = err_from_is_err_and c.from_residual.result c.from_residual.ensures.1 in
    rw (p.1, p.2)
    (sym (ap told (turned_down (block_tests s) (job_count s) (job_table (job_list s)) (job_table []) c.read_jobs.result (λ j. j.count) (read a) (range_tests (low a) (high a)) (asking a) tt tt _ c.in_err-jobs.was)))

-- Past the block, the range decides.
on : (c : In_ok-jobs) → let a = (goal.at.In_ok-jobs c).After-read_jobs in read_call (block a) (low a) (high a) ≡ answer (range_tests (low a) (high a)) (asking a)
on c =
    let a = (goal.at.In_ok-jobs c).After-read_jobs in
    let s = block a in
    ap told (gone-past (block_tests s) (job_count s) (job_table (job_list s)) (job_table []) c.read_jobs.result (λ j. j.count) (read a) (range_tests (low a) (high a)) (asking a) tt tt _ c.in_ok-jobs.was)

pub returns-in_err-range : goal.returns-in_err-range
returns-in_err-range c =
    let a = (goal.at.returns-in_err-range c).After-read_jobs in
    let p = err_from_is_err_and c.from_residual-in_err-range.result c.from_residual-in_err-range.ensures.1 in
    let made-is = sym c.new.ensures ∙ ap new_range_answer c.in_err-range.was in
    rw (p.1, p.2)
    (sym (on (goal.at.returns-in_err-range c).In_ok-jobs ∙ ap told (refuses-alike (range_tests (low a) (high a)) (range_of (low a) (high a)) tt tt (asking a) tt tt _ made-is)))

pub returns : goal.returns
returns c =
    let a = (goal.at.returns c).After-read_jobs in
    let s = block a in
    let jobs : JobTable = c.in_ok-jobs.jobs in
    let range : Range = c.in_ok-range.range in
    let known = jobs-read s c.read_jobs.result c.read_jobs.ensures jobs c.in_ok-jobs.was in
    let made-is = handed-on {M = Unit {0}} (range_tests (low a) (high a)) (range_of (low a) (high a)) tt tt c.new.result (λ x. x) c.new.ensures range c.in_ok-range.was in
    let list : listed jobs ≡ job_list s = ap₂ take known.1 known.2 ∙ take-table most_jobs blank_job (job_count s) (job_list s) (jobs-listed s) in
    ap₂ (λ (n : ℕ) (l : List Job). given (n, (l, range))) known.1 list
    ∙ ap (λ (x : Range). given (job_count s, (job_list s, x))) made-is.1
    ∙ sym (on (goal.at.returns c).In_ok-jobs ∙ ap told (gives-alike (range_tests (low a) (high a)) (range_of (low a) (high a)) tt tt (asking a) tt tt range (sym c.new.ensures ∙ ap new_range_answer c.in_ok-range.was)))
