use Prim.Native.Nat.{ℕ}
use mathlib.Core.Path.{◌≡◌, sym, ap, ap₂, ◌∙◌}
use mathlib.Core.List.{List, [], ◌++◌}
use lib.ListN.{length}
use Rattle.std.specs.Prelude.{Result}
use Rattle.std.proofs.lemmas.Result.{err_from_is_err_and}
use Rattle.records.specs.declared.refusal.Refusal.{Refusal}
use Rattle.records.specs.Refusals.{Tests, handed}
use Rattle.records.specs.Jobs.{job_list}
use Rattle.records.specs.declared.job.Job.{Job}
use Rattle.records.proofs.Asking.{call-turned}
use Rattle.configuration.specs.declared.setting.Setting.{Setting}
use Rattle.configuration.specs.Blocks.{settings_of, record_tests, read_settings}
use Rattle.configuration.proofs.HandIns.{hand-in-turned, hand-in-on}
use Rattle.marker.specs.Marks.{marked, bounds_room, put_bounds, bounds_outcome}
use Rattle.marker.proofs.bounds.Goals as goal
use Rattle.marker.proofs.bounds.Goals.{Start, After-put_bounds}

-- What the call is to come to.
module _ (c : Start) where
  abbrev jobs : List ℕ
  jobs = c.args.jobs.now

  abbrev block : List ℕ
  block = c.args.configuration.now

  abbrev output : List ℕ
  output = c.args.output.now

  abbrev new : List ℕ
  new = marked (job_list jobs) (settings_of jobs block) output

  abbrev room : Tests
  room = bounds_room (job_list jobs) (length output)

  abbrev tests : List Job → ℕ → ℕ → Tests
  tests list low high = record_tests list low high block

pub returns-in_err-call : goal.returns-in_err-call
unfolding bounds_outcome
returns-in_err-call c =
    let s = (goal.at.returns-in_err-call c).Start in
    let a = c.args in
    let p = err_from_is_err_and c.from_residual.result c.from_residual.ensures.1 in
    rw (p.1, p.2) (call-turned (jobs s) a.low a.high [] c.read_call.result c.read_call.ensures (tests s (job_list (jobs s)) a.low a.high ++ room s) tt (new s) (output s) _ c.in_err-call.was)

pub returns-in_err-settings : goal.returns-in_err-settings
unfolding bounds_outcome read_settings
returns-in_err-settings c =
    let s = (goal.at.returns-in_err-settings c).Start in
    let a = c.args in
    let p = err_from_is_err_and c.from_residual-in_err-settings.result c.from_residual-in_err-settings.ensures.1 in
    rw (p.1, p.2)
    (hand-in-turned (jobs s) a.low a.high [] c.read_call.result c.read_call.ensures _ c.in_ok-call.was (block s) (tests s) c.read_settings.result c.read_settings.ensures (room s) tt (new s) (output s) _ c.in_err-settings.was)

-- What was written is what the whole call comes to.
coming : (c : After-put_bounds) → let s = (goal.at.After-put_bounds c).Start in
    (handed c.put_bounds.result (λ b. tt), c.put_bounds.new.output) ≡ bounds_outcome (jobs s) c.args.low c.args.high (block s) (output s)
unfolding bounds_outcome read_settings put_bounds
coming c =
    let s = (goal.at.After-put_bounds c).Start in
    let a = c.args in
    let on = hand-in-on (jobs s) a.low a.high [] c.read_call.result c.read_call.ensures _ c.in_ok-call.was (block s) (tests s) c.read_settings.result c.read_settings.ensures (room s) tt (new s) (output s) _ c.in_ok-settings.was in
    c.put_bounds.ensures.written ∙ ap₂ (λ (l : List Job) (x : List Setting). put_bounds l x (output s)) on.0.list on.0.settings ∙ on.1

pub returns-in_err-put_bounds : goal.returns-in_err-put_bounds
returns-in_err-put_bounds c =
    let p = err_from_is_err_and c.from_residual-in_err-put_bounds.result c.from_residual-in_err-put_bounds.ensures.1 in
    rw (p.1, p.2)
    (ap (λ (x : Result (List ℕ) Refusal). (handed x (λ b. tt), c.put_bounds.new.output)) (sym c.in_err-put_bounds.was) ∙ coming (goal.at.returns-in_err-put_bounds c).After-put_bounds)

pub returns : goal.returns
returns c =
    ap (λ (x : Result (List ℕ) Refusal). (handed x (λ b. tt), c.put_bounds.new.output)) (sym c.in_ok-put_bounds.was) ∙ coming (goal.at.returns c).After-put_bounds
