use Prim.Native.Nat.{ℕ, min}
use mathlib.Core.Path.{◌≡◌, sym, ap, ap₂, ◌∙◌}
use mathlib.Core.Bool.{Bool}
use mathlib.Core.List.{List, [], ◌++◌}
use native.Mathlib.Omega.{arith}
use lib.ListN.{length}
use lib.Seq.{sets}
use Rattle.records.specs.Limits.{most_jobs}
use Rattle.std.proofs.lemmas.Result.{err_from_is_err_and}
use Rattle.records.specs.Refusals.{Answer, given, Tests}
use Rattle.records.specs.Jobs.{job_list}
use Rattle.records.specs.declared.job.Job.{Job}
use Rattle.records.proofs.Reading.{jobs-listed}
use Rattle.records.proofs.Asking.{call-knows, call-turned}
use Rattle.configuration.specs.Blocks.{settings_of, record_tests, read_settings}
use Rattle.configuration.proofs.HandIns.{hand-in-turned, hand-in-on}
use Rattle.marker.specs.Bounds.{all_served}
use Rattle.marking.specs.Marks.{bounds_text, bounds_told}
use Rattle.marking.proofs.HandInTexts.{bound-rows, none_over_lem}
use Rattle.marking.proofs.bounds.Goals as goal
use Rattle.marking.proofs.bounds.Goals.{Start}

-- What the call is to come to.
module _ (c : Start) where
  abbrev jobs : List ℕ
  jobs = c.args.jobs.now

  abbrev block : List ℕ
  block = c.args.configuration.now

  abbrev output : List ℕ
  output = c.args.output.now

  abbrev text : List ℕ
  text = bounds_text jobs block

  abbrev new : List ℕ
  new = sets output 0 text

  abbrev values : Bool × (ℕ × ℕ)
  values = (all_served (job_list jobs) (settings_of jobs block), (length text, length text))

  abbrev tests : List Job → ℕ → ℕ → Tests
  tests list low high = record_tests list low high block

pub returns-in_err-call : goal.returns-in_err-call
unfolding bounds_told
returns-in_err-call c =
    let s = (goal.at.returns-in_err-call c).Start in
    let a = c.args in
    let p = err_from_is_err_and c.from_residual.result c.from_residual.ensures.1 in
    rw (p.1, p.2) (call-turned (jobs s) a.low a.high [] c.read_call.result c.read_call.ensures (tests s (job_list (jobs s)) a.low a.high ++ []) (values s) (new s) (output s) _ c.in_err-call.was, tt)

pub returns-in_err-settings : goal.returns-in_err-settings
unfolding bounds_told read_settings
returns-in_err-settings c =
    let s = (goal.at.returns-in_err-settings c).Start in
    let a = c.args in
    let p = err_from_is_err_and c.from_residual-in_err-settings.result c.from_residual-in_err-settings.ensures.1 in
    rw (p.1, p.2)
    (hand-in-turned (jobs s) a.low a.high [] c.read_call.result c.read_call.ensures _ c.in_ok-call.was (block s) (tests s) c.read_settings.result c.read_settings.ensures [] (values s) (new s) (output s) _ c.in_err-settings.was, tt)

pub returns : goal.returns
unfolding bounds_told read_settings
returns c =
    let s = (goal.at.returns c).Start in
    let a = c.args in
    let call = c.in_ok-call.call in
    let n = call.jobs.count in
    let on = hand-in-on (jobs s) a.low a.high [] c.read_call.result c.read_call.ensures _ c.in_ok-call.was (block s) (tests s) c.read_settings.result c.read_settings.ensures [] (values s) (new s) (output s) _ c.in_ok-settings.was in
    let knows = (call-knows (jobs s) a.low a.high [] c.read_call.result c.read_call.ensures call c.in_ok-call.was).1 in
    let size : n ≡ length (job_list (jobs s)) = knows.count ∙ sym (jobs-listed (jobs s)) in
    let cut : min n most_jobs ≡ n = omega (arith, knows.few) in
    let table = call.jobs.table in
    let settings = c.in_ok-settings.settings.table in
    let same = bound-rows table settings (job_list (jobs s)) (settings_of (jobs s) (block s)) n _ cut size on.0.list on.0.settings _ c.bounds_of-bounds.ensures in
    let over = none_over_lem table settings (job_list (jobs s)) (settings_of (jobs s) (block s)) n _ cut size on.0.list on.0.settings _ c.bounds_of-bounds.ensures in
    let wrote = c.put_bounds.ensures in (
      ap₂ (λ (x : Answer (Bool × (ℕ × ℕ))) (y : List ℕ). (x, y))
          (wrote.0 ∙ ap₂ (λ (b : Bool) (p : ℕ × ℕ). given (b, p)) (over) (ap₂ (λ (x y : ℕ). (x, y)) (ap length same) (ap length same)))
          (wrote.3 ∙ ap (sets (output s) 0) same)
          ∙ on.1,
      (wrote.1, wrote.2),
    )
