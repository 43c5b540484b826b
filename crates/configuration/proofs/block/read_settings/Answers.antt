use Prim.Native.Nat.{ℕ}
use mathlib.Core.Path.{◌≡◌, sym, ap, ◌∙◌}
use mathlib.Core.List.{List}
use native.Mathlib.Omega.{arith}
use lib.ListN.{length, take}
use Rattle.std.proofs.lemmas.Result.{err_from_is_err_and}
use Rattle.records.specs.Limits.{most_jobs}
use Rattle.records.specs.Refusals.{Tests, verdict, answer}
use Rattle.records.specs.Jobs.{listed}
use Rattle.records.specs.declared.job.Job.{Job}
use Rattle.records.proofs.FixedWidth.{cut-take, cut-length}
use Rattle.records.proofs.BlockReading.{block_size, block-turned, block_read}
use Rattle.configuration.specs.declared.setting.Setting.{Setting}
use Rattle.configuration.specs.Settings.{setting_size, setting_of, blank_setting, setting_table, settings_in}
use Rattle.configuration.specs.Configuration.{setting_tests}
use Rattle.configuration.specs.Blocks.{read_settings}
use borrow.Author.Rules.{rules}
use Rattle.configuration.proofs.block.read_settings.Goals as goal
use Rattle.configuration.proofs.block.read_settings.Goals.{After-at_most-count, After-judge_settings}

-- The list of jobs, and their number.
module _ (c : After-at_most-count) where
  abbrev jobs : List Job
  jobs = listed c.args.call.jobs

  abbrev block : List ℕ
  block = c.args.configuration.now

  abbrev tests : List Setting → Tests
  tests records = setting_tests jobs c.args.call.range.low c.args.call.range.high records

  size : length jobs ≡ c.at_most-count.result
  size =
      let a = c.args in
      cut-length a.call.jobs.table most_jobs a.call.jobs.count _ (search rules) c.at_most-count.ensures

pub returns-then-configuration-count : goal.returns-then-configuration-count
unfolding read_settings
returns-then-configuration-count c =
    let a = (goal.at.returns-then-configuration-count c).After-at_most-count in
    block_size setting_size setting_of blank_setting most_jobs (length (jobs a)) (block a) (tests a) _ (size a) c.if-configuration-count.true

-- What was read, and what was judged for the list of jobs.
module _ (c : After-judge_settings) where
  abbrev count : ℕ
  count = c.at_most-count.result

  made : c.read-table.result ≡ setting_table (settings_in count (block (goal.at.After-judge_settings c).After-at_most-count))
  made =
      c.read-table.ensures
      ∙ ap (λ (n : ℕ). setting_table (settings_in n (block (goal.at.After-judge_settings c).After-at_most-count))) (omega (arith, c.if-configuration-count.false, c.at_most-count.ensures))

  judged : verdict c.judge_settings.result ≡ answer (tests (goal.at.After-judge_settings c).After-at_most-count (take count c.read-table.result)) tt
  judged =
      let a = (goal.at.After-judge_settings c).After-at_most-count in
      c.judge_settings.ensures
      ∙ ap (λ (l : List Setting). answer (tests a l) tt) (sym (cut-take c.read-table.result most_jobs c.args.call.jobs.count count (search rules) c.at_most-count.ensures))

pub returns-in_err-judge_settings : goal.returns-in_err-judge_settings
unfolding read_settings
returns-in_err-judge_settings c =
    let a = (goal.at.returns-in_err-judge_settings c).After-at_most-count in
    let j = (goal.at.returns-in_err-judge_settings c).After-judge_settings in
    let p = err_from_is_err_and c.from_residual.result c.from_residual.ensures.1 in
    rw (p.1, p.2)
    (block-turned setting_size setting_of blank_setting most_jobs (length (jobs a)) (block a) (tests a) _ (size a) c.if-configuration-count.false _ (made j) _ (judged j) _ c.in_err-judge_settings.was)

pub returns : goal.returns
unfolding read_settings
returns c =
    let a = (goal.at.returns c).After-at_most-count in
    let j = (goal.at.returns c).After-judge_settings in
    block_read setting_size setting_of blank_setting most_jobs (length (jobs a)) (block a) (tests a) _ (size a) c.if-configuration-count.false _ (made j) _ (judged j) _ c.in_ok-judge_settings.was
