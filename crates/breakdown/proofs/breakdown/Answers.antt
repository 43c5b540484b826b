use Prim.Native.Nat.{ℕ, ◌*◌}
use mathlib.Core.Path.{◌≡◌, sym, ap, ap₂, ◌∙◌}
use mathlib.Core.List.{List, [], ◌++◌}
use lib.ListN.{length, take}
use Rattle.sets.proofs.Places.{list_length}
use Rattle.records.specs.Limits.{most_jobs}
use Rattle.std.proofs.lemmas.Result.{err_from_is_err_and}
use Rattle.records.specs.Refusals.{Answer, Tests, outcome, counted}
use Rattle.records.specs.Records.{table, write_records, room_tests}
use Rattle.records.specs.Jobs.{job_list}
use Rattle.records.specs.declared.job.Job.{Job}
use Rattle.records.proofs.Reading.{jobs-listed}
use Rattle.records.proofs.Asking.{call-knows, call-turned}
use Rattle.records.proofs.FixedWidth.{take-table, wrote-turned, wrote-given}
use Rattle.configuration.specs.declared.setting.Setting.{Setting}
use Rattle.configuration.specs.Blocks.{settings_of, record_tests, read_settings}
use Rattle.configuration.proofs.HandIns.{HandedIn, hand-in-turned, hand-in-on}
use Rattle.response.specs.declared.parts.Parts.{Parts}
use Rattle.response.specs.Breakdown.{no_parts}
use Rattle.parts.specs.Breakdowns.{parts_in, breakdown_of}
use Rattle.breakdown.specs.Breakdowns.{parts_size, parts_bytes, broken_down, breakdown_outcome}
use Rattle.breakdown.proofs.Holding.{breakdown-promise}
use Rattle.breakdown.proofs.breakdown.Goals as goal
use Rattle.breakdown.proofs.breakdown.Goals.{After-write_parts, Start}

-- What the call is to come to.
module _ (c : Start) where
  abbrev jobs : List ℕ
  jobs = c.args.jobs.now

  abbrev block : List ℕ
  block = c.args.configuration.now

  abbrev output : List ℕ
  output = c.args.output.now

  abbrev tests : List Job → ℕ → ℕ → Tests
  tests list low high = record_tests list low high block

  abbrev each-parts : List Parts
  each-parts = breakdown_of (job_list jobs) (settings_of jobs block)

  abbrev room : Tests
  room = room_tests (parts_size * length (job_list jobs)) (length output)

  abbrev new : List ℕ
  new = broken_down (job_list jobs) (settings_of jobs block) output

pub returns-in_err-call : goal.returns-in_err-call
unfolding breakdown_outcome
returns-in_err-call c =
    let s = (goal.at.returns-in_err-call c).Start in
    let a = c.args in
    let p = err_from_is_err_and c.from_residual.result c.from_residual.ensures.1 in
    rw (p.1, p.2)
    (breakdown-promise (jobs s) a.low a.high (block s) (output s) _
    (call-turned (jobs s) a.low a.high [] c.read_call.result c.read_call.ensures (tests s (job_list (jobs s)) a.low a.high ++ room s) tt (new s) (output s) _ c.in_err-call.was))

pub returns-in_err-settings : goal.returns-in_err-settings
unfolding breakdown_outcome read_settings
returns-in_err-settings c =
    let s = (goal.at.returns-in_err-settings c).Start in
    let a = c.args in
    let p = err_from_is_err_and c.from_residual-in_err-settings.result c.from_residual-in_err-settings.ensures.1 in
    rw (p.1, p.2)
    (breakdown-promise (jobs s) a.low a.high (block s) (output s) _
    (hand-in-turned (jobs s) a.low a.high [] c.read_call.result c.read_call.ensures _ c.in_ok-call.was (block s) (tests s) c.read_settings.result c.read_settings.ensures (room s) tt (new s) (output s) _ c.in_err-settings.was))

-- The parts that were written are those of the block's jobs and settings.
module _ (c : After-write_parts) where
  abbrev s : Start
  s = (goal.at.After-write_parts c).Start

  -- What is written of the parts.
  abbrev done : Answer (Unit {0}) × List ℕ
  done = outcome (room_tests (parts_size * length (each-parts s)) (length (output s))) tt (new s) (output s)

  on : HandedIn (jobs s) c.in_ok-call.call (block s) c.in_ok-settings.settings (tests s (job_list (jobs s)) c.args.low c.args.high)
      × (outcome {A = Unit {0}} (room s) tt (new s) (output s) ≡ breakdown_outcome (jobs s) c.args.low c.args.high (block s) (output s))
  unfolding breakdown_outcome read_settings
  on =
      let a = c.args in
      hand-in-on (jobs s) a.low a.high [] c.read_call.result c.read_call.ensures _ c.in_ok-call.was (block s) (tests s) c.read_settings.result c.read_settings.ensures (room s) tt (new s) (output s) _ c.in_ok-settings.was

  count : length (each-parts s) ≡ length (job_list (jobs s))
  count = list_length (parts_in (job_list (jobs s)) (settings_of (jobs s) (block s))) (length (job_list (jobs s)))

  jobs-counted : length (job_list (jobs s)) ≡ c.in_ok-call.call.jobs.count
  jobs-counted = jobs-listed (jobs s) ∙ sym (call-knows (jobs s) c.args.low c.args.high [] c.read_call.result c.read_call.ensures _ c.in_ok-call.was).1.count

  saw : (counted c.write_parts.result, c.write_parts.new.output) ≡ write_records parts_size parts_bytes (each-parts s) (output s)
  saw =
      let n = c.in_ok-call.call.jobs.count in
      let first : take n c.breakdown_of-each.result ≡ each-parts s =
      ap (take n) (c.breakdown_of-each.ensures ∙ ap₂ (λ (l : List Job) (x : List Setting). table most_jobs no_parts (breakdown_of l x)) on.0.list on.0.settings)
      ∙ take-table most_jobs no_parts n (each-parts s) (count ∙ jobs-counted) in
      c.write_parts.ensures ∙ ap (λ (l : List Parts). write_records parts_size parts_bytes l (output s)) first

  coming : done ≡ breakdown_outcome (jobs s) c.args.low c.args.high (block s) (output s)
  coming = ap (λ (m : ℕ). outcome (room_tests (parts_size * m) (length (output s))) tt (new s) (output s)) count ∙ on.1

pub returns-in_err-write_parts : goal.returns-in_err-write_parts
returns-in_err-write_parts c =
    let w = (goal.at.returns-in_err-write_parts c).After-write_parts in
    let a = c.args in
    let p = err_from_is_err_and c.from_residual-in_err-write_parts.result c.from_residual-in_err-write_parts.ensures.1 in
    rw (p.1, p.2)
    (breakdown-promise (jobs (s w)) a.low a.high (block (s w)) (output (s w)) _
    (wrote-turned parts_size parts_bytes (each-parts (s w)) (output (s w)) c.write_parts.result c.write_parts.new.output (saw w) _ c.in_err-write_parts.was ∙ coming w))

pub returns : goal.returns
returns c =
    let w = (goal.at.returns c).After-write_parts in
    let a = c.args in
    breakdown-promise (jobs (s w)) a.low a.high (block (s w)) (output (s w)) _
    (wrote-given parts_size parts_bytes (each-parts (s w)) (output (s w)) c.write_parts.result c.write_parts.new.output (saw w) _ c.in_ok-write_parts.was ∙ coming w)
