use Prim.Native.Nat.{ℕ, ◌*◌}
use mathlib.Core.Path.{◌≡◌, sym, ap, ap₂, ◌∙◌}
use mathlib.Core.List.{List, [], ◌++◌}
use lib.ListN.{length, take}
use lib.Seq.{length-take-le}
use native.Mathlib.Omega.{arith}
use borrow.Author.Tests.{eq-eqb, ne_eqb}
use Rattle.std.proofs.lemmas.Result.{err_from_is_err_and}
use Rattle.records.specs.Limits.{most_jobs}
use Rattle.records.specs.Refusals.{Tests, answer, verdict, outcome}
use Rattle.records.specs.Records.{written, room_tests, write_records}
use Rattle.records.specs.Jobs.{job_list}
use Rattle.records.specs.declared.job.Job.{Job}
use Rattle.records.specs.declared.range.Range.{Range}
use Rattle.records.specs.declared.call.Call.{Call}
use Rattle.records.proofs.Outcomes.{turned_by, passed-by}
use Rattle.records.proofs.Reading.{jobs-listed}
use Rattle.records.proofs.Asking.{Knows, call-knows, call-turned, call-on}
use Rattle.configuration.specs.Settings.{setting_size, setting_bytes}
use Rattle.configuration.specs.Configuration.{setting_tests}
use Rattle.configuration.specs.Blocks.{counted_tests, write_configuration}
use borrow.Author.Rules.{rules}
use Rattle.configuration.proofs.block.write_configuration.Goals as goal
use Rattle.configuration.proofs.block.write_configuration.Goals.{After-judge_settings, In_ok-call, Start}

-- What the call is to come to.
module _ (c : Start) where
  abbrev jobs : List Job
  jobs = job_list c.args.jobs.now

  abbrev output : List ℕ
  output = c.args.output.now

  abbrev new : List ℕ
  new = written setting_size setting_bytes (take c.args.count c.args.settings) output

  abbrev room : Tests
  room = room_tests (setting_size * c.args.count) (length output)

  whole : length c.args.settings ≡ most_jobs
  whole = search rules

  abbrev later : Tests
  later = counted_tests jobs c.args.low c.args.high c.args.count c.args.settings ++ room

pub returns-in_err-call : goal.returns-in_err-call
unfolding write_configuration
returns-in_err-call c =
    let a = c.args in
    let s = (goal.at.returns-in_err-call c).Start in
    let p = err_from_is_err_and c.from_residual.result c.from_residual.ensures.1 in
    rw (p.1, p.2) (call-turned a.jobs.now a.low a.high [] c.read_call.result c.read_call.ensures (later s) (setting_size * a.count) (new s) (output s) _ c.in_err-call.was)

-- Past the call, the table of settings decides.
module _ (c : In_ok-call) where
  abbrev call : Call
  call = c.in_ok-call.call

  known : Knows c.args.jobs.now c.args.low c.args.high call
  known = (call-knows c.args.jobs.now c.args.low c.args.high [] c.read_call.result c.read_call.ensures call c.in_ok-call.was).1

  size : length (jobs (goal.at.In_ok-call c).Start) ≡ call.jobs.count
  size = jobs-listed c.args.jobs.now ∙ sym known.count

  on : let a = c.args in let s = (goal.at.In_ok-call c).Start in
      write_configuration a.jobs.now a.low a.high a.count a.settings (output s) ≡ outcome (later s) (setting_size * a.count) (new s) (output s)
  unfolding write_configuration
  on =
      let a = c.args in
      let s = (goal.at.In_ok-call c).Start in
      call-on a.jobs.now a.low a.high [] c.read_call.result c.read_call.ensures (later s) (setting_size * a.count) (new s) (output s) call c.in_ok-call.was

pub returns-then-count-call : goal.returns-then-count-call
returns-then-count-call c =
    let o = (goal.at.returns-then-count-call c).In_ok-call in
    sym (on o ∙ simp (ne_eqb c.args.count (length (jobs (goal.at.returns-then-count-call c).Start)) (λ e. c.if-count-call.true (e ∙ size o))))

-- Past refusal 7.
module _ (c : After-judge_settings) where
  abbrev tests : Tests
  tests = setting_tests (jobs (goal.at.After-judge_settings c).Start) c.args.low c.args.high (take c.args.count c.args.settings)

  same : c.args.count ≡ (call (goal.at.After-judge_settings c).In_ok-call).jobs.count
  same = c.if-count-call.false

  sized : let s = (goal.at.After-judge_settings c).Start in
      outcome (later s) (setting_size * c.args.count) (new s) (output s) ≡ outcome (tests ++ room s) (setting_size * c.args.count) (new s) (output s)
  sized =
      let s = (goal.at.After-judge_settings c).Start in
      simp (eq-eqb c.args.count (length (jobs s)) (same ∙ sym (size (goal.at.After-judge_settings c).In_ok-call)))

  judged : verdict c.judge_settings.result ≡ answer tests tt
  judged =
      let o = (goal.at.After-judge_settings c).In_ok-call in
      let k = known o in
      c.judge_settings.ensures
      ∙ ap₂ (λ (l : List Job) (x : Range). answer (setting_tests l x.low x.high (take (call o).jobs.count c.args.settings)) tt) k.list k.range
      ∙ ap (λ (m : ℕ). answer (setting_tests (jobs (goal.at.After-judge_settings c).Start) c.args.low c.args.high (take m c.args.settings)) tt) (sym same)

pub returns-in_err-judge_settings : goal.returns-in_err-judge_settings
returns-in_err-judge_settings c =
    let s = (goal.at.returns-in_err-judge_settings c).Start in
    let j = (goal.at.returns-in_err-judge_settings c).After-judge_settings in
    let p = err_from_is_err_and c.from_residual-in_err-judge_settings.result c.from_residual-in_err-judge_settings.ensures.1 in
    rw (p.1, p.2)
    (sym (on (goal.at.returns-in_err-judge_settings c).In_ok-call ∙ sized j ∙ turned_by (tests j) c.judge_settings.result (judged j) (room s) (setting_size * c.args.count) (new s) (output s) _ c.in_err-judge_settings.was))

pub returns : goal.returns
unfolding write_records
returns c =
    let a = c.args in
    let s = (goal.at.returns c).Start in
    let j = (goal.at.returns c).After-judge_settings in
    let one : length (take a.count a.settings) ≡ a.count = length-take-le a.count a.settings (omega (arith, (known (goal.at.returns c).In_ok-call).few, same j, whole s)) in
    c.write.ensures
    ∙ ap (λ (m : ℕ). outcome (room_tests (setting_size * m) (length (output s))) (setting_size * m) (new s) (output s)) one
    ∙ sym (on (goal.at.returns c).In_ok-call ∙ sized j ∙ passed-by (tests j) c.judge_settings.result (judged j) (room s) (setting_size * a.count) (new s) (output s) _ c.in_ok-judge_settings.was)
