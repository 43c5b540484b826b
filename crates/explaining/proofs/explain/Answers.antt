use borrow.Author.Rules.{rules}
use Prim.Native.Nat.{ℕ}
use mathlib.Core.Path.{◌≡◌, sym, ap, ap₂, ◌∙◌}
use mathlib.Core.Bool.{Bool}
use mathlib.Core.List.{List, [], ◌++◌}
use native.Mathlib.Omega.{arith}
use lib.ListN.{length}
use lib.Seq.{sets}
use Rattle.std.proofs.lemmas.Result.{err_from_is_err_and}
use Rattle.records.specs.Refusals.{Answer, given, Tests}
use Rattle.records.specs.Jobs.{job_list}
use Rattle.records.specs.declared.job.Job.{Job}
use Rattle.records.proofs.Reading.{jobs-listed}
use Rattle.records.proofs.Asking.{call-knows, call-turned}
use Rattle.configuration.specs.Blocks.{settings_of, record_tests, read_settings}
use Rattle.configuration.proofs.HandIns.{hand-in-turned, hand-in-on}
use Rattle.marker.specs.Bounds.{all_served}
use Rattle.explaining.specs.Explanations.{explain_rows, explanation, explain_outcome}
use Rattle.marking.proofs.HandInTexts.{none_over_lem}
use Rattle.writing.proofs.Writing.{whole}
use Rattle.explaining.proofs.Explaining.{rows_are, text-is}
use Rattle.explaining.proofs.explain.Goals as goal
use Rattle.explaining.proofs.explain.Goals.{After-at_most, Start}

-- What the call is to come to.
module _ (c : Start) where
  abbrev jobs : List ℕ
  jobs = c.args.jobs.now

  abbrev block : List ℕ
  block = c.args.configuration.now

  abbrev output : List ℕ
  output = c.args.output.now

  abbrev text : List ℕ
  text = explanation (job_list jobs) (settings_of jobs block)

  abbrev new : List ℕ
  new = sets output 0 text

  abbrev values : Bool × (ℕ × ℕ)
  values = (all_served (job_list jobs) (settings_of jobs block), (length (explain_rows (job_list jobs) (settings_of jobs block)), length text))

  abbrev tests : List Job → ℕ → ℕ → Tests
  tests list low high = record_tests list low high block

pub returns-in_err-call : goal.returns-in_err-call
unfolding explain_outcome
returns-in_err-call c =
    let s = (goal.at.returns-in_err-call c).Start in
    let a = c.args in
    let p = err_from_is_err_and c.from_residual.result c.from_residual.ensures.1 in
    rw (p.1, p.2) (call-turned (jobs s) a.low a.high [] c.read_call.result c.read_call.ensures (tests s (job_list (jobs s)) a.low a.high ++ []) (values s) (new s) (output s) _ c.in_err-call.was, tt)

pub returns-in_err-settings : goal.returns-in_err-settings
unfolding explain_outcome read_settings
returns-in_err-settings c =
    let s = (goal.at.returns-in_err-settings c).Start in
    let a = c.args in
    let p = err_from_is_err_and c.from_residual-in_err-settings.result c.from_residual-in_err-settings.ensures.1 in
    rw (p.1, p.2)
    (hand-in-turned (jobs s) a.low a.high [] c.read_call.result c.read_call.ensures _ c.in_ok-call.was (block s) (tests s) c.read_settings.result c.read_settings.ensures [] (values s) (new s) (output s) _ c.in_err-settings.was, tt)

pub returns : goal.returns
unfolding explain_outcome read_settings
returns c =
    let s = (goal.at.returns c).Start in
    let a = c.args in
    let call = c.in_ok-call.call in
    let n = call.jobs.count in
    let on = hand-in-on (jobs s) a.low a.high [] c.read_call.result c.read_call.ensures _ c.in_ok-call.was (block s) (tests s) c.read_settings.result c.read_settings.ensures [] (values s) (new s) (output s) _ c.in_ok-settings.was in
    let knows = (call-knows (jobs s) a.low a.high [] c.read_call.result c.read_call.ensures call c.in_ok-call.was).1 in
    let list = job_list (jobs s) in
    let set = settings_of (jobs s) (block s) in
    let size : n ≡ length list = knows.count ∙ sym (jobs-listed (jobs s)) in
    let cut : c.at_most.result ≡ n = omega (arith, c.at_most.ensures, knows.few) in
    let table = call.jobs.table in
    let settings = c.in_ok-settings.settings.table in
    let rows = rows_are table settings list set n _ cut size on.0.list on.0.settings _ c.bounds_of-bounds.ensures _ c.breakdown_of-each.ensures in
    let same = text-is table settings list set n _ cut size on.0.list on.0.settings _ c.bounds_of-bounds.ensures _ c.breakdown_of-each.ensures in
    let over = none_over_lem table settings list set n _ cut size on.0.list on.0.settings _ c.bounds_of-bounds.ensures in
    let wrote = c.put_explanation.ensures in (
      ap₂ (λ (x : Answer (Bool × (ℕ × ℕ))) (y : List ℕ). (x, y))
          (wrote.0 ∙ ap₂ (λ (b : Bool) (p : ℕ × ℕ). given (b, p)) over (ap₂ (λ (x y : ℕ). (x, y)) (ap length rows) (ap length same)))
          (wrote.2.bytes ∙ ap (sets (output s) 0) same)
          ∙ on.1,
      (wrote.1, (whole wrote.2 (search rules)).0),
    )
