use Prim.Native.Nat.{ℕ}
use mathlib.Core.Path.{◌≡◌, sym, ap, ◌∙◌}
use mathlib.Core.Bool.{Bool}
use mathlib.Core.List.{List, [], ◌∷◌}
use lib.ListN.{length, length-take}
use borrow.Author.Tests.{not-true, not-false}
use Rattle.std.proofs.lemmas.Result.{err_from_is_err_and}
use Rattle.records.specs.Refusals.{Tests, outcome}
use Rattle.records.specs.Jobs.{listed}
use Rattle.records.specs.declared.job.Job.{Job}
use Rattle.configuration.specs.declared.setting.Setting.{Setting}
use Rattle.configuration.specs.Settings.{setting_table}
use Rattle.configuration.specs.Configuration.{full, full_tests}
use Rattle.configuration.specs.Blocks.{configuration_outcome, settings_for, record_tests, read_settings, read_full}
use Rattle.configuration.proofs.HandIns.{read-list, read-turned, read-on}
use borrow.Author.Rules.{rules}
use Rattle.configuration.proofs.block.read_full.Goals as goal
use Rattle.configuration.proofs.block.read_full.Goals.{After-all_ok, After-read_settings}

-- What was read: refusals 7 to 10 came first.
module _ (c : After-read_settings) where
  abbrev jobs : List Job
  jobs = listed c.args.call.jobs

  abbrev block : List ℕ
  block = c.args.configuration.now

  abbrev settings : List Setting
  settings = settings_for jobs block

  abbrev tests : Tests
  tests = record_tests jobs c.args.call.range.low c.args.call.range.high block

pub returns-in_err-settings : goal.returns-in_err-settings
unfolding read_settings read_full
returns-in_err-settings c =
    let a = (goal.at.returns-in_err-settings c).After-read_settings in
    let p = err_from_is_err_and c.from_residual.result c.from_residual.ensures.1 in
    rw (p.1, p.2)
    (sym (read-turned (jobs a) (tests a) (block a) c.read_settings.result c.read_settings.ensures (full_tests (jobs a) (settings a)) (length (jobs a)) (setting_table (settings a)) (setting_table []) _ c.in_err-settings.was))

-- Past them, refusal 11 decides.
module _ (c : After-all_ok) where
  full_is : let a = (goal.at.After-all_ok c).After-read_settings in full (jobs a) (settings a) ≡ c.all_ok.result
  unfolding read_settings
  full_is =
      let a = (goal.at.After-all_ok c).After-read_settings in
      let call = c.args.call in
      sym (c.all_ok.ensures ∙ ap (full (jobs a)) (read-list (jobs a) (tests a) (block a) c.read_settings.result c.read_settings.ensures _ c.in_ok-settings.was call.jobs.count (length-take call.jobs.count call.jobs.table ∙ search rules)))

  on : let a = (goal.at.After-all_ok c).After-read_settings in
      read_full (jobs a) c.args.call.range.low c.args.call.range.high (block a) ≡ outcome ((c.all_ok.result, 11) ∷ []) (length (jobs a)) (setting_table (settings a)) (setting_table [])
  unfolding read_settings read_full
  on =
      let a = (goal.at.After-all_ok c).After-read_settings in
      read-on (jobs a) (tests a) (block a) c.read_settings.result c.read_settings.ensures (full_tests (jobs a) (settings a)) (length (jobs a)) (setting_table (settings a)) (setting_table []) _ c.in_ok-settings.was
      ∙ ap (λ (b : Bool). outcome ((b, 11) ∷ []) (length (jobs a)) (setting_table (settings a)) (setting_table [])) full_is

pub returns-then-not-all_ok : goal.returns-then-not-all_ok
returns-then-not-all_ok c = sym (on (goal.at.returns-then-not-all_ok c).After-all_ok ∙ simp (not-true c.all_ok.result c.if-not-all_ok.true-raw))

pub returns : goal.returns
unfolding read_settings
returns c =
    let a = (goal.at.returns c).After-read_settings in
    let got = c.read_settings.ensures in
    ap configuration_outcome (sym c.in_ok-settings.was)
    ∙ got
    ∙ read-on (jobs a) (tests a) (block a) c.read_settings.result got [] (length (jobs a)) (setting_table (settings a)) (setting_table []) _ c.in_ok-settings.was
    ∙ sym (on (goal.at.returns c).After-all_ok ∙ simp (not-false c.all_ok.result c.if-not-all_ok.false-raw))
