-- What a caller of a reader of configuration blocks knows from its answer, whatever tests the reader makes and whatever tests follow.
-- Assumes nothing.
use Prim.Native.Nat.{ℕ, min}
use mathlib.Core.Path.{◌≡◌, refl, sym, ap, ap₂, ◌∙◌}
use mathlib.Core.Bool.{true}
use mathlib.Core.List.{List, [], ◌++◌}
use native.Mathlib.Omega.{arith}
use lib.ListN.{length, take}
use Rattle.std.specs.Prelude.{Result, Ok, Err}
use Rattle.records.specs.Limits.{most_jobs}
use Rattle.records.specs.Refusals.{Answer, Tests, outcome, answer, handed, turned, Accepts}
use Rattle.records.specs.Jobs.{job_list, listed}
use Rattle.records.specs.Calls.{asked, call_tests, question}
use Rattle.records.specs.declared.job.Job.{Job}
use Rattle.records.specs.declared.range.Range.{Range}
use Rattle.records.specs.declared.call.Call.{Call}
use Rattle.records.specs.declared.refusal.Refusal.{Refusal}
use Rattle.records.proofs.Outcomes.{gives, accepts-second, turned_down, gone-past}
use Rattle.records.proofs.FixedWidth.{length-chunks, take-cut}
use Rattle.records.proofs.Reading.{jobs-listed}
use Rattle.records.proofs.Asking.{Knows, call-knows, call-on}
use Rattle.configuration.specs.declared.setting.Setting.{Setting}
use Rattle.configuration.specs.declared.block.SettingTable.{SettingTable}
use Rattle.configuration.specs.Settings.{setting_size, setting_of, blank_setting, setting_table}
use Rattle.configuration.specs.Configuration.{full, full_tests}
use Rattle.configuration.specs.Blocks.{configuration_outcome, settings_for, settings_of, record_tests, hand_in_tests, read_by}

module _ (jobs : List Job) (tests : Tests) (configuration : List ℕ) (r : Result SettingTable Refusal) (is : configuration_outcome r ≡ read_by tests jobs configuration) where
  abbrev new : List Setting
  new = setting_table (settings_for jobs configuration)

  abbrev counting : SettingTable → ℕ
  counting settings = settings.count

  told : handed r counting ≡ (outcome tests (length jobs) new (setting_table [])).0
  told = same r ∙ ap (λ (x : Answer ℕ × List Setting). x.0) is
    where
      same : (x : Result SettingTable Refusal) → handed x counting ≡ (configuration_outcome x).0
      same (Ok settings) = refl
      same (Err refusal) = refl

  module _ (settings : SettingTable) (e : r ≡ Ok settings) where
    read : Accepts tests × (settings.count ≡ length jobs) × (settings.table ≡ new)
    read = gives tests (length jobs) new (setting_table []) (configuration_outcome (Ok settings)) settings.count (ap configuration_outcome (sym e) ∙ is) refl

    -- The reader's tests hold.
    pub read-accepts : Accepts tests
    read-accepts = read.0

    -- The first entries of the table are the settings of the block.
    pub read-list : (n : ℕ) → length jobs ≡ min n most_jobs → take n settings.table ≡ settings_for jobs configuration
    read-list n f =
        ap (take n) read.2
        ∙ take-cut most_jobs blank_setting n (settings_for jobs configuration) (length-chunks setting_size setting_of (length jobs) configuration ∙ f)

  module _ {A B : Type 0} (later : Tests) (values : A) (after before : B) where
    pub read-turned : (refusal : Refusal) → r ≡ Err refusal → outcome (tests ++ later) values after before ≡ turned refusal before
    read-turned refusal e = turned_down tests (length jobs) new (setting_table []) r counting told later values after before refusal e

    pub read-on : (settings : SettingTable) → r ≡ Ok settings → outcome (tests ++ later) values after before ≡ outcome later values after before
    read-on settings e = gone-past tests (length jobs) new (setting_table []) r counting told later values after before settings e

-- A configuration that read_full accepts is full.
pub full-accepted : (jobs : List Job) (low high : ℕ) (configuration : List ℕ) → Accepts (hand_in_tests jobs low high configuration) → full jobs (settings_for jobs configuration) ≡ true
full-accepted jobs low high configuration ok = (accepts-second (record_tests jobs low high configuration) (full_tests jobs (settings_for jobs configuration)) ok).0

-- ---- after the call: a configuration block read for its jobs and its range

-- What an accepted hand-in hands on: the jobs of the job block and the settings of the configuration block, which the reader's tests let by.
pub record HandedIn (jobs : List ℕ) (call : Call) (configuration : List ℕ) (read : SettingTable) (tests : Tests) : Type 0 where
  pub accepts : Accepts tests
  pub list : listed call.jobs ≡ job_list jobs
  pub settings : take call.jobs.count read.table ≡ settings_of jobs configuration

-- `more` are the tests between the range and the configuration, judged by then; `tests` are the reader's, and `later` those that follow.
module _ (jobs : List ℕ) (low high : ℕ) (more : Tests) (asking : Result Call Refusal) (asks : asked asking ≡ answer (call_tests jobs low high ++ more) (question jobs low high))
    (call : Call) (count : asking ≡ Ok call) (configuration : List ℕ) (tests : List Job → ℕ → ℕ → Tests) (r : Result SettingTable Refusal)
    (is : configuration_outcome r ≡ read_by (tests (listed call.jobs) call.range.low call.range.high) (listed call.jobs) configuration)
    {A B : Type 0} (later : Tests) (values : A) (after before : B)
  where
    knows : Knows jobs low high call
    knows = (call-knows jobs low high more asking asks call count).1

    abbrev own : Tests
    own = tests (job_list jobs) low high

    abbrev all : Tests
    all = (call_tests jobs low high ++ more) ++ (own ++ later)

    -- The reader saw the jobs of the block and the range.
    saw : configuration_outcome r ≡ read_by own (job_list jobs) configuration
    saw = is ∙ ap₂ (λ (l : List Job) (x : Range). read_by (tests l x.low x.high) l configuration) knows.list knows.range

    past-call : outcome all values after before ≡ outcome (own ++ later) values after before
    past-call = call-on jobs low high more asking asks (own ++ later) values after before call count

    pub hand-in-turned : (refusal : Refusal) → r ≡ Err refusal → turned refusal before ≡ outcome all values after before
    hand-in-turned refusal e = sym (past-call ∙ read-turned (job_list jobs) own configuration r saw later values after before refusal e)

    pub hand-in-on : (settings : SettingTable) → r ≡ Ok settings → HandedIn jobs call configuration settings own × (outcome later values after before ≡ outcome all values after before)
    hand-in-on settings e =
        let k = knows in
        let size : length (job_list jobs) ≡ min call.jobs.count most_jobs = jobs-listed jobs ∙ omega (arith, k.count, k.few) in (
          record {
            accepts = read-accepts (job_list jobs) own configuration r saw settings e;
            list = k.list;
            settings = read-list (job_list jobs) own configuration r saw settings e call.jobs.count size;
          },
          sym (past-call ∙ read-on (job_list jobs) own configuration r saw later values after before settings e),
        )
