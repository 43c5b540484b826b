use borrow.Author.Rules.{rules}
use Prim.Native.Nat.{ℕ}
use mathlib.Core.Path.{◌≡◌, sym, ap, ap₂, ◌∙◌}
use mathlib.Core.Bool.{Bool, ◌&&◌}
use mathlib.Core.List.{List, [], ◌++◌}
use native.Mathlib.Omega.{arith}
use lib.ListN.{length}
use lib.Seq.{sets}
use Rattle.std.proofs.lemmas.Result.{err_from_is_err_and}
use Rattle.records.specs.Refusals.{Answer, given, Tests}
use Rattle.records.specs.Jobs.{job_list}
use Rattle.records.specs.declared.job.Job.{Job}
use Rattle.records.proofs.Reading.{jobs-listed}
use Rattle.records.proofs.Asking.{call-knows, call-turned}
use Rattle.configuration.specs.Blocks.{settings_of, hand_in_tests, read_full}
use Rattle.configuration.proofs.HandIns.{full-accepted, hand-in-turned, hand-in-on}
use Rattle.marker.specs.Bounds.{all_served, passes}
use Rattle.marking.specs.Marks.{marks_of, marks_last, marks_outcome}
use Rattle.writing.proofs.Writing.{whole}
use Rattle.marking.proofs.HandInTexts.{mark-rows, marks-same, none_over_lem}
use Rattle.marking.proofs.marks.Goals as goal
use Rattle.marking.proofs.marks.Goals.{After-at_most, Start}

-- What the call is to come to.
module _ (c : Start) where
  abbrev jobs : List ℕ
  jobs = c.args.jobs.now

  abbrev block : List ℕ
  block = c.args.configuration.now

  abbrev output : List ℕ
  output = c.args.output.now

  abbrev text : List ℕ
  text = marks_of jobs block

  abbrev new : List ℕ
  new = sets output 0 text

  abbrev values : Bool × (ℕ × ℕ)
  values = (passes (job_list jobs) (settings_of jobs block), (marks_last jobs block, length text))

  abbrev tests : List Job → ℕ → ℕ → Tests
  tests list low high = hand_in_tests list low high block

pub returns-in_err-call : goal.returns-in_err-call
unfolding marks_outcome
returns-in_err-call c =
    let s = (goal.at.returns-in_err-call c).Start in
    let a = c.args in
    let p = err_from_is_err_and c.from_residual.result c.from_residual.ensures.1 in
    rw (p.1, p.2) (call-turned (jobs s) a.low a.high [] c.read_call.result c.read_call.ensures (tests s (job_list (jobs s)) a.low a.high ++ []) (values s) (new s) (output s) _ c.in_err-call.was, tt)

pub returns-in_err-settings : goal.returns-in_err-settings
unfolding marks_outcome read_full
returns-in_err-settings c =
    let s = (goal.at.returns-in_err-settings c).Start in
    let a = c.args in
    let p = err_from_is_err_and c.from_residual-in_err-settings.result c.from_residual-in_err-settings.ensures.1 in
    rw (p.1, p.2)
    (hand-in-turned (jobs s) a.low a.high [] c.read_call.result c.read_call.ensures _ c.in_ok-call.was (block s) (tests s) c.read_full.result c.read_full.ensures [] (values s) (new s) (output s) _ c.in_err-settings.was, tt)

pub returns : goal.returns
unfolding marks_outcome read_full
returns c =
    let s = (goal.at.returns c).Start in
    let a = c.args in
    let call = c.in_ok-call.call in
    let n = call.jobs.count in
    let on = hand-in-on (jobs s) a.low a.high [] c.read_call.result c.read_call.ensures _ c.in_ok-call.was (block s) (tests s) c.read_full.result c.read_full.ensures [] (values s) (new s) (output s) _ c.in_ok-settings.was in
    let knows = (call-knows (jobs s) a.low a.high [] c.read_call.result c.read_call.ensures call c.in_ok-call.was).1 in
    let size : n ≡ length (job_list (jobs s)) = knows.count ∙ sym (jobs-listed (jobs s)) in
    let cut : c.at_most.result ≡ n = omega (arith, c.at_most.ensures, knows.few) in
    let table = call.jobs.table in
    let settings = c.in_ok-settings.settings.table in
    let same = marks-same table settings (job_list (jobs s)) (settings_of (jobs s) (block s)) n _ cut size on.0.list on.0.settings _ c.bounds_of-bounds.ensures in
    let first = mark-rows table settings (job_list (jobs s)) (settings_of (jobs s) (block s)) n _ cut size on.0.list on.0.settings _ c.bounds_of-bounds.ensures in
    let over = none_over_lem table settings (job_list (jobs s)) (settings_of (jobs s) (block s)) n _ cut size on.0.list on.0.settings _ c.bounds_of-bounds.ensures in
    let wrote = c.put_marks.ensures in (
      ap₂ (λ (x : Answer (Bool × (ℕ × ℕ))) (y : List ℕ). (x, y))
          (wrote.0 ∙ ap₂ (λ (b : Bool) (p : ℕ × ℕ). given (b, p)) (over ∙ sym (ap (λ (b : Bool). b && all_served (job_list (jobs s)) (settings_of (jobs s) (block s))) (full-accepted (job_list (jobs s)) c.args.low c.args.high (block s) on.0.accepts))) (ap₂ (λ (x y : ℕ). (x, y)) (ap length first) (ap length same)))
          (wrote.2.bytes ∙ ap (sets (output s) 0) same)
          ∙ on.1,
      (wrote.1, (whole wrote.2 (search rules)).0),
    )
