-- The two round trips of blocks through the outcomes of the entries, and what the entries promise. Assumes nothing.
use Prim.Native.Nat.{ℕ, ◌*◌, ◌+◌, ◌≤◌}
use mathlib.Core.Path.{◌≡◌, sym, ap, subst, ◌∙◌}
use mathlib.Core.Bool.{true}
use mathlib.Core.List.{List, ◌++◌, map}
use native.Mathlib.Omega.{arith}
use lib.ListN.{length, take, drop, length-map}
use lib.Seq.{take_at}
use borrow.Author.Tests.{eq-eqb, eqb-true, le-leb}
use Rattle.records.specs.Limits.{most_jobs}
use Rattle.records.specs.Refusals.{Answer, given, Tests, Accepts}
use Rattle.records.specs.Records.{flat, written, room_tests}
use Rattle.records.specs.Jobs.{job_list, block_tests}
use Rattle.records.specs.Ranges.{range_tests}
use Rattle.records.specs.Calls.{call_tests}
use Rattle.records.specs.declared.job.Job.{Job}
use Rattle.records.proofs.Outcomes.{gives, accepts, accepts-both, accepts-first, accepts-second}
use Rattle.records.proofs.FixedWidth.{length-flat, length-chunks}
use Rattle.records.proofs.Reading.{jobs-listed, count_most}
use Rattle.configuration.specs.declared.setting.Setting.{Setting}
use Rattle.configuration.specs.Settings.{setting_size, setting_of, setting_bytes, settings_in}
use Rattle.configuration.specs.Configuration.{full, full_tests, Configuration, setting_tests}
use Rattle.configuration.specs.Blocks.{settings_of, record_tests, hand_in_tests}
use Rattle.configuration.specs.RecordLaws.{setting-width}
use Rattle.configuration.proofs.SettingRecords.{settings-back, settings-again}
use Rattle.kernel.specs.declared.priority.KernelPriority.{KernelPriority}
use Rattle.kernel.specs.declared.record.KernelRecord.{KernelRecord}
use Rattle.kernel.specs.Priorities.{priority_tests}
use Rattle.kernel.specs.KernelRecords.{kernel_size, kernel_of, kernel_bytes, kernels_in, to_kernel_record, to_setting}
use Rattle.kernel.specs.KernelConfiguration.{kernel_tests, KernelConfiguration}
use Rattle.kernel.specs.Conversions.{loader_tests, kernels_for, kernel_block_tests, kernels_of, settings_back, to_kernel_tests, to_kernel_outcome, from_kernel_tests, from_kernel_outcome}
use Rattle.kernel.specs.Promises.{SameLayers, begun, ThereAndBack, BackAndThere, ToKernelPromise, FromKernelPromise}
use Rattle.kernel.proofs.Tops.{priorities-fit}
use Rattle.kernel.specs.RecordLaws.{kernel-width}
use Rattle.kernel.proofs.KernelRecords.{kernels-back, kernels-again}
use Rattle.kernel.proofs.Converted.{there-accepted, there_and_back, there-layers, back-accepted, back_full, back-and-there, back-layers}

module _ (jobs : List ℕ) (low high : ℕ) (lowest highest : KernelPriority) where
  abbrev list : List Job
  list = job_list jobs

  abbrev n : ℕ
  n = length list

  abbrev loader : Tests
  loader = loader_tests jobs low high lowest highest

  -- ---- what both entries are given

  module _ (ok : Accepts loader) where
    fits : n ≤ highest.0 + 1
    fits = priorities-fit n lowest highest (accepts-second (call_tests jobs low high) (priority_tests n lowest highest) ok)

    few : n ≤ most_jobs
    few =
        let block-ok = accepts-first (block_tests jobs) (range_tests low high) (accepts-first (call_tests jobs low high) (priority_tests n lowest highest) ok) in
        omega (arith, jobs-listed jobs, count_most jobs block-ok)

  -- ---- there and back

  module _ (block : List ℕ) (room : ℕ) (ok : Accepts (to_kernel_tests jobs low high lowest highest block room)) where
    abbrev there : Tests
    there = hand_in_tests list low high block ++ room_tests (kernel_size * n) room

    abbrev settings : List Setting
    settings = settings_of jobs block

    abbrev kernels : List KernelRecord
    kernels = kernels_of jobs highest block

    abbrev kernel-block : List ℕ
    kernel-block = flat kernel_bytes kernels

    given-there : Accepts loader
    given-there = accepts-first loader there ok

    hand_in : Accepts (hand_in_tests list low high block)
    hand_in = accepts-first (hand_in_tests list low high block) (room_tests (kernel_size * n) room) (accepts-second loader there ok)

    records : Accepts (record_tests list low high block)
    records = accepts-first (record_tests list low high block) (full_tests list settings) hand_in

    all : full list settings ≡ true
    all = (accepts-second (record_tests list low high block) (full_tests list settings) hand_in).0

    configured : Configuration list low high settings
    configured = (eq-eqb _ _ (length-chunks setting_size setting_of n block), records.1)

    many : length kernels ≡ n
    many = length-map settings (to_kernel_record highest) ∙ length-chunks setting_size setting_of n block

    kernel-length : length kernel-block ≡ kernel_size * n
    kernel-length = length-flat kernel_bytes kernel_size kernel-width kernels ∙ ap (λ (k : ℕ). kernel_size * k) many

    kernels-read : kernels_for list kernel-block ≡ kernels
    kernels-read = ap (λ (k : ℕ). kernels_in k kernel-block) (sym many) ∙ kernels-back kernels

    -- The kernel records are accepted on the way back.
    there-from : (room' : ℕ) → setting_size * n ≤ room' → Accepts (from_kernel_tests jobs low high lowest highest kernel-block room')
    there-from room' h =
        let tests = (there-accepted list low high highest (fits given-there) (few given-there) settings configured all).1 in
        accepts-both loader (kernel_block_tests list low high highest kernel-block ++ room_tests (setting_size * n) room') given-there
        (accepts-both (kernel_block_tests list low high highest kernel-block) (room_tests (setting_size * n) room')
        (eq-eqb _ _ kernel-length, subst (λ (x : List KernelRecord). Accepts (kernel_tests list low high highest x)) (sym kernels-read) tests)
        (le-leb (setting_size * n) room' h, tt))

    -- From them the block is written again.
    from-there : (output : List ℕ) → setting_size * n ≤ length output → from_kernel_outcome jobs low high lowest highest kernel-block output ≡ (given tt, begun block output)
    unfolding from_kernel_outcome
    from-there output h =
        let long : length block ≡ setting_size * n = eqb-true _ _ records.0 in
        let back : settings_back jobs highest kernel-block ≡ settings =
        ap (map (to_setting highest)) kernels-read ∙ there_and_back list low high highest (fits given-there) (few given-there) settings configured all in
        accepts tt (written setting_size setting_bytes (settings_back jobs highest kernel-block) output) output (from_kernel_tests jobs low high lowest highest kernel-block (length output)) (there-from (length output) h)
        ∙ ap (λ (x : List Setting). (given tt, written setting_size setting_bytes x output)) back
        ∙ ap (λ (k : ℕ). (given tt, flat setting_bytes settings ++ drop (setting_size * k) output)) (length-chunks setting_size setting_of n block)
        ∙ ap (λ (x : List ℕ). (given tt, x ++ drop (setting_size * n) output)) (settings-again n block long)
        ∙ ap (λ (k : ℕ). (given tt, block ++ drop k output)) (sym long)

    -- What to_kernel wrote is the kernel block.
    wrote-there : (output : List ℕ) → take (kernel_size * n) (written kernel_size kernel_bytes kernels output) ≡ kernel-block
    wrote-there output = take_at kernel-block (drop (kernel_size * length kernels) output) (kernel_size * n) kernel-length

    there_back : ThereAndBack jobs low high lowest highest block kernel-block
    there_back = record {
      back = from-there;
      layers = subst (λ (x : List KernelRecord). SameLayers n settings x) (sym kernels-read)
          (there-layers list low high highest (fits given-there) (few given-there) settings configured all);
    }

  -- Whatever is the outcome of to_kernel keeps its promise.
  pub to-kernel-promise : (block output : List ℕ) (got : Answer (Unit {0}) × List ℕ) → got ≡ to_kernel_outcome jobs low high lowest highest block output
      → ToKernelPromise jobs low high lowest highest block output got
  unfolding to_kernel_outcome
  to-kernel-promise block output got e = record { is = e; back = held }
    where
      held : got.0 ≡ given tt → ThereAndBack jobs low high lowest highest block (take (kernel_size * n) got.1)
      held f =
          let new = written kernel_size kernel_bytes (kernels_of jobs highest block) output in
          let told = gives (to_kernel_tests jobs low high lowest highest block (length output)) tt new output got tt e f in
          subst (ThereAndBack jobs low high lowest highest block) (sym (ap (take (kernel_size * n)) told.2 ∙ wrote-there block (length output) told.0 output))
          (there_back block (length output) told.0)

  -- ---- back and there

  module _ (block : List ℕ) (room : ℕ) (ok : Accepts (from_kernel_tests jobs low high lowest highest block room)) where
    abbrev back : Tests
    back = kernel_block_tests list low high highest block ++ room_tests (setting_size * n) room

    abbrev kernels-given : List KernelRecord
    kernels-given = kernels_for list block

    abbrev converted : List Setting
    converted = settings_back jobs highest block

    abbrev setting-block : List ℕ
    setting-block = flat setting_bytes converted

    given_back : Accepts loader
    given_back = accepts-first loader back ok

    kernel-records : Accepts (kernel_block_tests list low high highest block)
    kernel-records = accepts-first (kernel_block_tests list low high highest block) (room_tests (setting_size * n) room) (accepts-second loader back ok)

    accepted-kernels : KernelConfiguration list low high highest kernels-given
    accepted-kernels = (eq-eqb _ _ (length-chunks kernel_size kernel_of n block), kernel-records.1)

    entries : length converted ≡ n
    entries = length-map kernels-given (to_setting highest) ∙ length-chunks kernel_size kernel_of n block

    setting-length : length setting-block ≡ setting_size * n
    setting-length = length-flat setting_bytes setting_size setting-width converted ∙ ap (λ (k : ℕ). setting_size * k) entries

    settings-read : settings_of jobs setting-block ≡ converted
    settings-read = ap (λ (k : ℕ). settings_in k setting-block) (sym entries) ∙ settings-back converted

    -- The configuration is accepted on the way there.
    back_to : (room' : ℕ) → kernel_size * n ≤ room' → Accepts (to_kernel_tests jobs low high lowest highest setting-block room')
    back_to room' h =
        let tests = (back-accepted list low high highest (fits given_back) (few given_back) kernels-given accepted-kernels).1 in
        let whole = ap (full list) settings-read ∙ back_full list low high highest (fits given_back) (few given_back) kernels-given accepted-kernels in
        accepts-both loader (hand_in_tests list low high setting-block ++ room_tests (kernel_size * n) room') given_back
        (accepts-both (hand_in_tests list low high setting-block) (room_tests (kernel_size * n) room')
        (accepts-both (record_tests list low high setting-block) (full_tests list (settings_of jobs setting-block))
        (eq-eqb _ _ setting-length, subst (λ (x : List Setting). Accepts (setting_tests list low high x)) (sym settings-read) tests)
        (whole, tt))
        (le-leb (kernel_size * n) room' h, tt))

    -- From it the block is written again.
    to_back : (output : List ℕ) → kernel_size * n ≤ length output → to_kernel_outcome jobs low high lowest highest setting-block output ≡ (given tt, begun block output)
    unfolding to_kernel_outcome
    to_back output h =
        let long : length block ≡ kernel_size * n = eqb-true _ _ kernel-records.0 in
        let again : kernels_of jobs highest setting-block ≡ kernels-given =
        ap (map (to_kernel_record highest)) settings-read ∙ back-and-there list low high highest (fits given_back) (few given_back) kernels-given accepted-kernels in
        accepts tt (written kernel_size kernel_bytes (kernels_of jobs highest setting-block) output) output (to_kernel_tests jobs low high lowest highest setting-block (length output)) (back_to (length output) h)
        ∙ ap (λ (x : List KernelRecord). (given tt, written kernel_size kernel_bytes x output)) again
        ∙ ap (λ (k : ℕ). (given tt, flat kernel_bytes kernels-given ++ drop (kernel_size * k) output)) (length-chunks kernel_size kernel_of n block)
        ∙ ap (λ (x : List ℕ). (given tt, x ++ drop (kernel_size * n) output)) (kernels-again n block long)
        ∙ ap (λ (k : ℕ). (given tt, block ++ drop k output)) (sym long)

    -- What from_kernel wrote is the configuration block.
    wrote-back : (output : List ℕ) → take (setting_size * n) (written setting_size setting_bytes converted output) ≡ setting-block
    wrote-back output = take_at setting-block (drop (setting_size * length converted) output) (setting_size * n) setting-length

    back-there : BackAndThere jobs low high lowest highest block setting-block
    back-there = record {
      there = to_back;
      layers = subst (λ (x : List Setting). SameLayers n x kernels-given) (sym settings-read)
          (back-layers list low high highest (fits given_back) (few given_back) kernels-given accepted-kernels);
    }

  -- Whatever is the outcome of from_kernel keeps its promise.
  pub from-kernel-promise : (block output : List ℕ) (got : Answer (Unit {0}) × List ℕ) → got ≡ from_kernel_outcome jobs low high lowest highest block output
      → FromKernelPromise jobs low high lowest highest block output got
  unfolding from_kernel_outcome
  from-kernel-promise block output got e = record { is = e; there = held }
    where
      held : got.0 ≡ given tt → BackAndThere jobs low high lowest highest block (take (setting_size * n) got.1)
      held f =
          let new = written setting_size setting_bytes (settings_back jobs highest block) output in
          let told = gives (from_kernel_tests jobs low high lowest highest block (length output)) tt new output got tt e f in
          subst (BackAndThere jobs low high lowest highest block) (sym (ap (take (setting_size * n)) told.2 ∙ wrote-back block (length output) told.0 output))
          (back-there block (length output) told.0)
