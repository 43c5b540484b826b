use Prim.Native.Nat.{ℕ, ◌*◌}
use mathlib.Core.Path.{◌≡◌, sym, ap, ◌∙◌}
use mathlib.Core.List.{List, ◌++◌}
use lib.ListN.{length, take}
use Rattle.std.proofs.lemmas.Result.{err_from_is_err_and}
use Rattle.records.specs.Limits.{most_jobs}
use Rattle.records.specs.Refusals.{Answer, Tests, outcome}
use Rattle.records.specs.Records.{written, room_tests}
use Rattle.records.specs.Jobs.{job_list}
use Rattle.records.specs.declared.job.Job.{Job}
use Rattle.records.proofs.Reading.{jobs-listed}
use Rattle.records.proofs.Asking.{Knows, call-knows, call-turned}
use Rattle.records.proofs.Mapped.{made-turned, made-given}
use Rattle.records.proofs.FixedWidth.{length-chunks}
use Rattle.configuration.specs.Settings.{setting_size, setting_of}
use Rattle.configuration.specs.Blocks.{settings_of, hand_in_tests, read_full}
use Rattle.configuration.proofs.HandIns.{HandedIn, hand-in-turned, hand-in-on}
use Rattle.kernel.specs.declared.record.KernelRecord.{KernelRecord}
use Rattle.kernel.specs.Priorities.{priority_tests}
use Rattle.kernel.specs.KernelRecords.{kernel_size, kernel_bytes, blank_kernel, to_kernel_record}
use Rattle.kernel.specs.Conversions.{kernels_of, to_kernel_outcome}
use Rattle.kernel.proofs.RoundTrip.{to-kernel-promise}
use Rattle.kernel.proofs.to_kernel.Goals as goal
use Rattle.kernel.proofs.to_kernel.Goals.{In_ok-call, In_ok-settings, After-write, Start}

-- What the call is to come to.
module _ (c : Start) where
  abbrev jobs : List ℕ
  jobs = c.args.jobs.now

  abbrev block : List ℕ
  block = c.args.configuration.now

  abbrev output : List ℕ
  output = c.args.output.now

  abbrev more : Tests
  more = priority_tests (length (job_list jobs)) c.args.lowest c.args.highest

  abbrev tests : List Job → ℕ → ℕ → Tests
  tests list low high = hand_in_tests list low high block

  abbrev kernels : List KernelRecord
  kernels = kernels_of jobs c.args.highest block

  abbrev room : Tests
  room = room_tests (kernel_size * length (job_list jobs)) (length output)

  abbrev new : List ℕ
  new = written kernel_size kernel_bytes kernels output

pub returns-in_err-call : goal.returns-in_err-call
unfolding to_kernel_outcome
returns-in_err-call c =
    let s = (goal.at.returns-in_err-call c).Start in
    let a = c.args in
    let p = err_from_is_err_and c.from_residual.result c.from_residual.ensures.1 in
    rw (p.1, p.2)
    (to-kernel-promise (jobs s) a.low a.high a.lowest a.highest (block s) (output s) _
    (call-turned (jobs s) a.low a.high (more s) c.read_call.result c.read_call.ensures (tests s (job_list (jobs s)) a.low a.high ++ room s) tt (new s) (output s) _ c.in_err-call.was))

pub returns-in_err-settings : goal.returns-in_err-settings
unfolding to_kernel_outcome read_full
returns-in_err-settings c =
    let s = (goal.at.returns-in_err-settings c).Start in
    let a = c.args in
    let p = err_from_is_err_and c.from_residual-in_err-settings.result c.from_residual-in_err-settings.ensures.1 in
    rw (p.1, p.2)
    (to-kernel-promise (jobs s) a.low a.high a.lowest a.highest (block s) (output s) _
    (hand-in-turned (jobs s) a.low a.high (more s) c.read_call.result c.read_call.ensures _ c.in_ok-call.was (block s) (tests s) c.read_full.result c.read_full.ensures (room s) tt (new s) (output s) _ c.in_err-settings.was))

-- The number of jobs that was told is that of the list, and of the settings.
module _ (c : In_ok-call) where
  knows : Knows (jobs (goal.at.In_ok-call c).Start) c.args.low c.args.high c.in_ok-call.call
  knows = (call-knows (jobs (goal.at.In_ok-call c).Start) c.args.low c.args.high (more (goal.at.In_ok-call c).Start) c.read_call.result c.read_call.ensures _ c.in_ok-call.was).1

  jobs-counted : c.in_ok-call.call.jobs.count ≡ length (job_list (jobs (goal.at.In_ok-call c).Start))
  jobs-counted = knows.count ∙ sym (jobs-listed (jobs (goal.at.In_ok-call c).Start))

  counted-jobs : length (settings_of (jobs (goal.at.In_ok-call c).Start) (block (goal.at.In_ok-call c).Start)) ≡ c.in_ok-call.call.jobs.count
  counted-jobs =
      length-chunks setting_size setting_of (length (job_list (jobs (goal.at.In_ok-call c).Start))) (block (goal.at.In_ok-call c).Start) ∙ sym jobs-counted

-- Past both, the room decides.
module _ (c : In_ok-settings) where
  on : let s = (goal.at.In_ok-settings c).Start in let a = c.args in
      HandedIn (jobs s) c.in_ok-call.call (block s) c.in_ok-settings.settings (tests s (job_list (jobs s)) a.low a.high)
      × (outcome {A = Unit {0}} (room s) tt (new s) (output s) ≡ to_kernel_outcome (jobs s) a.low a.high a.lowest a.highest (block s) (output s))
  unfolding to_kernel_outcome read_full
  on =
      let s = (goal.at.In_ok-settings c).Start in
      let a = c.args in
      hand-in-on (jobs s) a.low a.high (more s) c.read_call.result c.read_call.ensures _ c.in_ok-call.was (block s) (tests s) c.read_full.result c.read_full.ensures (room s) tt (new s) (output s) _ c.in_ok-settings.was

-- What was written of the kernel records, for the number of jobs of the block.
module _ (c : After-write) where
  abbrev made : Answer (Unit {0}) × List ℕ → Type 0
  made got = got ≡ outcome (room_tests (kernel_size * c.in_ok-call.call.jobs.count) (length (output (goal.at.After-write c).Start))) tt (new (goal.at.After-write c).Start) (output (goal.at.After-write c).Start)

  settings-first : take c.in_ok-call.call.jobs.count c.in_ok-settings.settings.table ≡ settings_of (jobs (goal.at.After-write c).Start) (block (goal.at.After-write c).Start)
  settings-first = (on (goal.at.After-write c).In_ok-settings).0.settings

  coming : {got : Answer (Unit {0}) × List ℕ} → made got
      → got ≡ to_kernel_outcome (jobs (goal.at.After-write c).Start) c.args.low c.args.high c.args.lowest c.args.highest (block (goal.at.After-write c).Start) (output (goal.at.After-write c).Start)
  coming m =
      let s = (goal.at.After-write c).Start in
      m ∙ ap (λ (i : ℕ). outcome (room_tests (kernel_size * i) (length (output s))) tt (new s) (output s)) (jobs-counted (goal.at.After-write c).In_ok-call) ∙ (on (goal.at.After-write c).In_ok-settings).1

pub returns-in_err-write : goal.returns-in_err-write
returns-in_err-write c =
    let s = (goal.at.returns-in_err-write c).Start in
    let w = (goal.at.returns-in_err-write c).After-write in
    let o = (goal.at.returns-in_err-write c).In_ok-call in
    let a = c.args in
    let p = err_from_is_err_and c.from_residual-in_err-write.result c.from_residual-in_err-write.ensures.1 in
    rw (p.1, p.2)
    (to-kernel-promise (jobs s) a.low a.high a.lowest a.highest (block s) (output s) _
    (coming w (made-turned (to_kernel_record a.highest) blank_kernel most_jobs kernel_size kernel_bytes c.in_ok-call.call.jobs.count c.in_ok-settings.settings.table (settings_of (jobs s) (block s)) (settings-first w) (counted-jobs o)
    _ c.to_kernel_records-kernels.ensures (output s) c.write.result _ c.write.ensures _ c.in_err-write.was)))

pub returns : goal.returns
returns c =
    let s = (goal.at.returns c).Start in
    let w = (goal.at.returns c).After-write in
    let o = (goal.at.returns c).In_ok-call in
    let a = c.args in
    to-kernel-promise (jobs s) a.low a.high a.lowest a.highest (block s) (output s) _
    (coming w (made-given (to_kernel_record a.highest) blank_kernel most_jobs kernel_size kernel_bytes c.in_ok-call.call.jobs.count c.in_ok-settings.settings.table (settings_of (jobs s) (block s)) (settings-first w) (counted-jobs o)
    _ c.to_kernel_records-kernels.ensures (output s) c.write.result _ c.write.ensures _ c.in_ok-write.was))
