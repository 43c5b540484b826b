use Prim.Native.Nat.{ℕ, ◌*◌}
use mathlib.Core.Path.{◌≡◌, refl, sym, ap, ap₂, ◌∙◌}
use mathlib.Core.List.{List, [], ◌++◌}
use lib.ListN.{length, take}
use Rattle.std.specs.Prelude.{Result, Ok, Err}
use Rattle.std.proofs.lemmas.Result.{err_from_is_err_and}
use Rattle.records.specs.Limits.{most_jobs}
use Rattle.records.specs.Refusals.{Answer, Tests, outcome, handed}
use Rattle.records.specs.Records.{written, room_tests}
use Rattle.records.specs.Jobs.{job_list}
use Rattle.records.specs.Calls.{call_tests}
use Rattle.records.specs.declared.job.Job.{Job}
use Rattle.records.specs.declared.range.Range.{Range}
use Rattle.records.specs.declared.call.Call.{Call}
use Rattle.records.specs.declared.refusal.Refusal.{Refusal}
use Rattle.records.proofs.Outcomes.{gives, turned_down, gone-past}
use Rattle.records.proofs.Reading.{jobs-listed}
use Rattle.records.proofs.Asking.{Knows, call-knows, call-turned, call-on}
use Rattle.records.proofs.FixedWidth.{length-chunks, take-table}
use Rattle.records.proofs.Mapped.{made-turned, made-given}
use Rattle.configuration.specs.Settings.{setting_size, setting_bytes, blank_setting}
use Rattle.kernel.specs.declared.record.KernelRecord.{KernelRecord}
use Rattle.kernel.specs.declared.block.KernelTable.{KernelTable}
use Rattle.kernel.specs.Priorities.{priority_tests}
use Rattle.kernel.specs.KernelRecords.{kernel_size, kernel_of, blank_kernel, kernel_table, to_setting}
use Rattle.kernel.specs.Conversions.{kernels_for, kernel_block_tests, kernels_outcome, read_kernels, settings_back, from_kernel_outcome}
use Rattle.kernel.proofs.RoundTrip.{from-kernel-promise}
use Rattle.kernel.proofs.from_kernel.Goals as goal
use Rattle.kernel.proofs.from_kernel.Goals.{After-read_kernels, After-write, Start}

-- What the call is to come to.
module _ (c : Start) where
  abbrev jobs : List ℕ
  jobs = c.args.jobs.now

  abbrev block : List ℕ
  block = c.args.kernel.now

  abbrev output : List ℕ
  output = c.args.output.now

  abbrev more : Tests
  more = priority_tests (length (job_list jobs)) c.args.lowest c.args.highest

  abbrev tests : Tests
  tests = kernel_block_tests (job_list jobs) c.args.low c.args.high c.args.highest block

  abbrev room : Tests
  room = room_tests (setting_size * length (job_list jobs)) (length output)

  abbrev new : List ℕ
  new = written setting_size setting_bytes (settings_back jobs c.args.highest block) output

pub returns-in_err-call : goal.returns-in_err-call
unfolding from_kernel_outcome
returns-in_err-call c =
    let s = (goal.at.returns-in_err-call c).Start in
    let a = c.args in
    let p = err_from_is_err_and c.from_residual.result c.from_residual.ensures.1 in
    rw (p.1, p.2)
    (from-kernel-promise (jobs s) a.low a.high a.lowest a.highest (block s) (output s) _
    (call-turned (jobs s) a.low a.high (more s) c.read_call.result c.read_call.ensures (tests s ++ room s) tt (new s) (output s) _ c.in_err-call.was))

-- The call as read_call left it, past its tests, and what read_kernels then saw: the jobs of the block and the range.
module _ (c : After-read_kernels) where
  abbrev s : Start
  s = (goal.at.After-read_kernels c).Start

  abbrev call : Call
  call = c.in_ok-call.call

  abbrev counting : KernelTable → ℕ
  counting kernels = kernels.count

  abbrev held : List KernelRecord
  held = kernel_table (kernels_for (job_list (jobs s)) (block s))

  knows : Knows (jobs s) c.args.low c.args.high call
  knows = (call-knows (jobs s) c.args.low c.args.high (more s) c.read_call.result c.read_call.ensures _ c.in_ok-call.was).1

  saw : kernels_outcome c.read_kernels.result ≡ outcome (tests s) (length (job_list (jobs s))) held (kernel_table [])
  unfolding read_kernels
  saw = c.read_kernels.ensures ∙ ap₂ (λ (l : List Job) (x : Range). read_kernels l x.low x.high c.args.highest (block s)) knows.list knows.range

  told : handed c.read_kernels.result counting ≡ (outcome (tests s) (length (job_list (jobs s))) held (kernel_table [])).0
  told = same c.read_kernels.result ∙ ap (λ (x : Answer ℕ × List KernelRecord). x.0) saw
    where
      same : (x : Result KernelTable Refusal) → handed x counting ≡ (kernels_outcome x).0
      same (Ok kernels) = refl
      same (Err refusal) = refl

  past-call : outcome {A = Unit {0}} ((call_tests (jobs s) c.args.low c.args.high ++ more s) ++ (tests s ++ room s)) tt (new s) (output s) ≡ outcome (tests s ++ room s) tt (new s) (output s)
  past-call = call-on (jobs s) c.args.low c.args.high (more s) c.read_call.result c.read_call.ensures (tests s ++ room s) tt (new s) (output s) _ c.in_ok-call.was

pub returns-in_err-kernels : goal.returns-in_err-kernels
unfolding from_kernel_outcome
returns-in_err-kernels c =
    let b = (goal.at.returns-in_err-kernels c).Start in
    let r = (goal.at.returns-in_err-kernels c).After-read_kernels in
    let a = c.args in
    let p = err_from_is_err_and c.from_residual-in_err-kernels.result c.from_residual-in_err-kernels.ensures.1 in
    rw (p.1, p.2)
    (from-kernel-promise (jobs b) a.low a.high a.lowest a.highest (block b) (output b) _
    (sym (past-call r ∙ turned_down (tests b) (length (job_list (jobs b))) (held r) (kernel_table []) c.read_kernels.result (counting r) (told r) (room b) tt (new b) (output b) _ c.in_err-kernels.was)))

-- What was written of the settings, for the number of jobs of the block.
module _ (c : After-write) where
  abbrev b : Start
  b = (goal.at.After-write c).Start

  abbrev r : After-read_kernels
  r = (goal.at.After-write c).After-read_kernels

  abbrev m : ℕ
  m = length (job_list (jobs b))

  abbrev list : List KernelRecord
  list = kernels_for (job_list (jobs b)) (block b)

  many : c.in_ok-call.call.jobs.count ≡ m
  many = (knows r).count ∙ sym (jobs-listed (jobs b))

  long : length list ≡ m
  long = length-chunks kernel_size kernel_of m (block b)

  first : take c.in_ok-call.call.jobs.count c.in_ok-kernels.kernels.table ≡ list
  first =
      let read = gives (tests b) m (held r) (kernel_table []) (kernels_outcome (Ok c.in_ok-kernels.kernels)) _ (ap kernels_outcome (sym c.in_ok-kernels.was) ∙ saw r) refl in
      ap₂ (λ (i : ℕ) (x : List KernelRecord). take i x) many read.2 ∙ take-table most_jobs blank_kernel m list long

  coming : {got : Answer (Unit {0}) × List ℕ} → got ≡ outcome (room_tests (setting_size * c.in_ok-call.call.jobs.count) (length (output b))) tt (new b) (output b)
      → got ≡ from_kernel_outcome (jobs b) c.args.low c.args.high c.args.lowest c.args.highest (block b) (output b)
  unfolding from_kernel_outcome
  coming e =
      e
      ∙ ap (λ (i : ℕ). outcome (room_tests (setting_size * i) (length (output b))) tt (new b) (output b)) many
      ∙ sym (past-call r ∙ gone-past (tests b) m (held r) (kernel_table []) c.read_kernels.result (counting r) (told r) (room b) tt (new b) (output b) _ c.in_ok-kernels.was)

pub returns-in_err-write : goal.returns-in_err-write
returns-in_err-write c =
    let w = (goal.at.returns-in_err-write c).After-write in
    let a = c.args in
    let p = err_from_is_err_and c.from_residual-in_err-write.result c.from_residual-in_err-write.ensures.1 in
    rw (p.1, p.2)
    (from-kernel-promise (jobs (b w)) a.low a.high a.lowest a.highest (block (b w)) (output (b w)) _
    (coming w (made-turned (to_setting a.highest) blank_setting most_jobs setting_size setting_bytes c.in_ok-call.call.jobs.count _ (list w) (first w) (long w ∙ sym (many w))
    _ c.to_settings-settings.ensures (output (b w)) c.write.result _ c.write.ensures _ c.in_err-write.was)))

pub returns : goal.returns
returns c =
    let w = (goal.at.returns c).After-write in
    let a = c.args in
    from-kernel-promise (jobs (b w)) a.low a.high a.lowest a.highest (block (b w)) (output (b w)) _
    (coming w (made-given (to_setting a.highest) blank_setting most_jobs setting_size setting_bytes c.in_ok-call.call.jobs.count _ (list w) (first w) (long w ∙ sym (many w))
    _ c.to_settings-settings.ensures (output (b w)) c.write.result _ c.write.ensures _ c.in_ok-write.was))
