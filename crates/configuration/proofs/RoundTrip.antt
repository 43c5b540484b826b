-- The two round trips of the configuration block, and that the reader lets by exactly the configurations of the job block's list and
-- the range. Assumes nothing.
use Prim.Native.Nat.{ℕ, ◌*◌, ◌≤◌}
use mathlib.Core.Path.{◌≡◌, refl, sym, ap, subst, ◌∙◌}
use mathlib.Core.List.{List, [], ◌++◌}
use native.Mathlib.Omega.{arith}
use lib.ListN.{length, take, drop}
use lib.Seq.{take_at, length-take-le}
use borrow.Author.Tests.{le-leb, eq-eqb, eqb-true}
use Rattle.records.specs.Limits.{most_jobs}
use Rattle.records.specs.Refusals.{Answer, given, Accepts}
use Rattle.records.specs.Records.{flat, written, room_tests}
use Rattle.records.specs.Jobs.{job_list}
use Rattle.records.specs.Calls.{call_tests}
use Rattle.records.specs.declared.job.Job.{Job}
use Rattle.records.proofs.Outcomes.{accepts, accepts-both, accepts-first, accepts-second}
use Rattle.records.proofs.FixedWidth.{length-flat, length-chunks, take-table}
use Rattle.configuration.specs.declared.setting.Setting.{Setting}
use Rattle.configuration.specs.Settings.{setting_size, setting_of, setting_bytes, settings_in, blank_setting, setting_table}
use Rattle.configuration.specs.Configuration.{setting_tests, Configuration}
use Rattle.configuration.specs.Blocks.{settings_of, record_tests, read_tests, read_configuration, counted_tests, write_tests, write_configuration}
use Rattle.configuration.specs.RecordLaws.{setting-width}
use Rattle.configuration.proofs.SettingRecords.{settings-back, settings-again}

module _ (jobs : List ℕ) (low high : ℕ) where
  abbrev list : List Job
  list = job_list jobs

  abbrev n : ℕ
  n = length list

  -- A block that is read holds a configuration of the list and the range.
  pub block-configuration : (block : List ℕ) → Accepts (read_tests jobs low high block) → Configuration list low high (settings_of jobs block)
  block-configuration block ok =
      (eq-eqb _ _ (length-chunks setting_size setting_of n block), (accepts-second (call_tests jobs low high) (record_tests list low high block) ok).1)

  -- The bytes of a configuration of an accepted list and range are read, and read back to it.
  module _ (settings : List Setting) (call_ok : Accepts (call_tests jobs low high)) (c : Configuration list low high settings) where
    entries : length settings ≡ n
    entries = eqb-true _ _ c.0

    size : length (flat setting_bytes settings) ≡ setting_size * n
    size = length-flat setting_bytes setting_size setting-width settings ∙ ap (λ (k : ℕ). setting_size * k) entries

    pub settings-read : settings_of jobs (flat setting_bytes settings) ≡ settings
    settings-read = ap (λ (k : ℕ). settings_in k (flat setting_bytes settings)) (sym entries) ∙ settings-back settings

    pub configuration-block : Accepts (read_tests jobs low high (flat setting_bytes settings))
    configuration-block =
        accepts-both (call_tests jobs low high) (record_tests list low high (flat setting_bytes settings)) call_ok
        (eq-eqb _ _ size, subst (λ (x : List Setting). Accepts (setting_tests list low high x)) (sym settings-read) c.1)

    pub read-bytes : read_configuration jobs low high (flat setting_bytes settings) ≡ (given n, setting_table settings)
    unfolding read_configuration
    read-bytes =
        accepts n (setting_table (settings_in n (flat setting_bytes settings))) (setting_table []) (read_tests jobs low high (flat setting_bytes settings)) configuration-block
        ∙ ap (λ (x : List Setting). (given n, setting_table x)) settings-read

  -- What the writer makes of an accepted table is read back to the table.
  pub read-written : (count : ℕ) (settings : List Setting) (output : List ℕ) → count ≤ length settings → Accepts (write_tests jobs low high count settings (length output))
      → read_configuration jobs low high (take (setting_size * count) (write_configuration jobs low high count settings output).1) ≡ (given count, setting_table (take count settings))
  unfolding write_configuration
  read-written count settings output fit ok =
      let first = take count settings in
      let m : length first ≡ count = length-take-le count settings fit in
      let room = room_tests (setting_size * count) (length output) in
      let counted = counted_tests list low high count settings in
      let call_ok = accepts-first (call_tests jobs low high) (counted ++ room) ok in
      let judged = accepts-first counted room (accepts-second (call_tests jobs low high) (counted ++ room) ok) in
      let all : count ≡ n = eqb-true _ _ judged.0 in
      let c : Configuration list low high first = (eq-eqb _ _ (m ∙ all), judged.1) in
      let new : (write_configuration jobs low high count settings output).1 ≡ written setting_size setting_bytes first output =
      ap (λ (x : Answer ℕ × List ℕ). x.1) (accepts (setting_size * count) (written setting_size setting_bytes first output) output (write_tests jobs low high count settings (length output)) ok) in
      ap (λ (x : List ℕ). read_configuration jobs low high (take (setting_size * count) x)) new
      ∙ ap (read_configuration jobs low high)
      (take_at (flat setting_bytes first) (drop (setting_size * length first) output) (setting_size * count) (size first call_ok c ∙ ap (λ (k : ℕ). setting_size * k) (sym all)))
      ∙ read-bytes first call_ok c
      ∙ ap (λ (k : ℕ). (given k, setting_table first)) (sym all)

  -- An accepted block is what the writer makes of what was read, whatever the output held.
  pub write_read : (block output : List ℕ) → length block ≤ length output → Accepts (read_tests jobs low high block)
      → write_configuration jobs low high n (read_configuration jobs low high block).1 output ≡ (given (length block), block ++ drop (length block) output)
  unfolding read_configuration write_configuration
  write_read block output fit ok =
      let settings = settings_of jobs block in
      let table = setting_table settings in
      let records = accepts-second (call_tests jobs low high) (record_tests list low high block) ok in
      let long : length block ≡ setting_size * n = eqb-true _ _ records.0 in
      let first : take n table ≡ settings = take-table most_jobs blank_setting n settings (length-chunks setting_size setting_of n block) in
      let judged : Accepts (counted_tests list low high n table) =
      (eq-eqb n n refl, subst (λ (x : List Setting). Accepts (setting_tests list low high x)) (sym first) records.1) in
      let all : Accepts (write_tests jobs low high n table (length output)) =
      accepts-both (call_tests jobs low high) (counted_tests list low high n table ++ room_tests (setting_size * n) (length output))
      (accepts-first (call_tests jobs low high) (record_tests list low high block) ok)
      (accepts-both (counted_tests list low high n table) (room_tests (setting_size * n) (length output)) judged (le-leb (setting_size * n) (length output) (omega arith), tt)) in
      ap (λ (x : List Setting). write_configuration jobs low high n x output) (ap (λ (x : Answer ℕ × List Setting). x.1) (accepts n table (setting_table []) (read_tests jobs low high block) ok))
      ∙ accepts (setting_size * n) (written setting_size setting_bytes (take n table) output) output (write_tests jobs low high n table (length output)) all
      ∙ ap (λ (x : List Setting). (given (setting_size * n), written setting_size setting_bytes x output)) first
      ∙ ap (λ (k : ℕ). (given (setting_size * n), flat setting_bytes settings ++ drop (setting_size * k) output)) (length-chunks setting_size setting_of n block)
      ∙ ap (λ (x : List ℕ). (given (setting_size * n), x ++ drop (setting_size * n) output)) (settings-again n block long)
      ∙ ap (λ (k : ℕ). (given k, block ++ drop k output)) (sym long)
