-- The configuration block: what is read and what is written, and which refusal applies first. Assumes nothing.
use Rattle.std.specs.Prelude.{ℕ, Result, Ok, Err, ◌*◌, List, [], ◌∷◌, ◌++◌, eqb, length, take}
use Rattle.records.specs.Refusals.{Answer, given, Tests, outcome, turned}
use Rattle.records.specs.Records.{written, room_tests}
use Rattle.records.specs.Jobs.{job_list}
use Rattle.records.specs.Calls.{call_tests}
use Rattle.records.specs.declared.job.Job.{Job}
use Rattle.records.specs.declared.refusal.Refusal.{Refusal}
use Rattle.configuration.specs.declared.setting.Setting.{Setting}
use Rattle.configuration.specs.declared.block.SettingTable.{SettingTable}
use Rattle.configuration.specs.Settings.{setting_size, setting_bytes, settings_in, setting_table}
use Rattle.configuration.specs.Configuration.{setting_tests, full_tests}

-- What the readers answer, in 01's numbers and values: the number of records; and the table, blank where there is none.
abbrev pub configuration_outcome : Result SettingTable Refusal → Answer ℕ × List Setting
configuration_outcome (Ok settings) = (given settings.count, settings.table)
configuration_outcome (Err refusal) = turned refusal (setting_table [])

-- ---- reading for a list of jobs and a range

-- The settings of a block, one per job.
abbrev pub settings_for : List Job → List ℕ → List Setting
settings_for jobs configuration = settings_in (length jobs) configuration

-- Refusals 7 to 10 of a block.
abbrev pub record_tests : List Job → ℕ → ℕ → List ℕ → Tests
record_tests jobs low high configuration =
    (eqb (length configuration) (setting_size * length jobs), 7) ∷ setting_tests jobs low high (settings_for jobs configuration)

-- Refusals 7 to 11.
abbrev pub hand_in_tests : List Job → ℕ → ℕ → List ℕ → Tests
hand_in_tests jobs low high configuration = record_tests jobs low high configuration ++ full_tests jobs (settings_for jobs configuration)

-- The outcome of a reader that makes these tests: the number of records, and the table beside it.
abbrev pub read_by : Tests → List Job → List ℕ → Answer ℕ × List Setting
read_by tests jobs configuration = outcome tests (length jobs) (setting_table (settings_for jobs configuration)) (setting_table [])

-- The outcomes of read_settings and of read_full.
unfoldable pub read_settings : List Job → ℕ → ℕ → List ℕ → Answer ℕ × List Setting
read_settings jobs low high configuration = read_by (record_tests jobs low high configuration) jobs configuration

unfoldable pub read_full : List Job → ℕ → ℕ → List ℕ → Answer ℕ × List Setting
read_full jobs low high configuration = read_by (hand_in_tests jobs low high configuration) jobs configuration

-- ---- reading for a job block and a range

-- The settings of a block, one per job of the job block.
abbrev pub settings_of : List ℕ → List ℕ → List Setting
settings_of jobs configuration = settings_for (job_list jobs) configuration

-- Refusals 1 to 10 of a job block, a range and a configuration block.
abbrev pub read_tests : List ℕ → ℕ → ℕ → List ℕ → Tests
read_tests jobs low high configuration = call_tests jobs low high ++ record_tests (job_list jobs) low high configuration

-- The outcome of read_configuration: the number of records, and the table beside it.
unfoldable pub read_configuration : List ℕ → ℕ → ℕ → List ℕ → Answer ℕ × List Setting
read_configuration jobs low high configuration = read_by (read_tests jobs low high configuration) (job_list jobs) configuration

-- ---- writing

-- Refusals 7 to 10 of the first `count` settings of a table, for a list of jobs and a range.
abbrev pub counted_tests : List Job → ℕ → ℕ → ℕ → List Setting → Tests
counted_tests jobs low high count settings = (eqb count (length jobs), 7) ∷ setting_tests jobs low high (take count settings)

-- Refusals 1 to 10 and 12 of a job block, a range, a table of `count` settings and an output of `room` bytes.
abbrev pub write_tests : List ℕ → ℕ → ℕ → ℕ → List Setting → ℕ → Tests
write_tests jobs low high count settings room =
    call_tests jobs low high ++ (counted_tests (job_list jobs) low high count settings ++ room_tests (setting_size * count) room)

-- The outcome of write_configuration: the number of bytes, and the output at exit.
unfoldable pub write_configuration : List ℕ → ℕ → ℕ → ℕ → List Setting → List ℕ → Answer ℕ × List ℕ
write_configuration jobs low high count settings output =
    outcome (write_tests jobs low high count settings (length output)) (setting_size * count) (written setting_size setting_bytes (take count settings) output) output
