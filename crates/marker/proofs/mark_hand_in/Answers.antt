use Prim.Native.Nat.{ℕ}
use mathlib.Core.Path.{◌≡◌, refl, sym, ap, ◌∙◌}
use mathlib.Core.Bool.{Bool, ◌&&◌}
use mathlib.Core.List.{List}
use lib.ListN.{length, take}
use Rattle.std.specs.Prelude.{Result}
use Rattle.std.proofs.lemmas.Result.{err_from_is_err_and, IfOk-at_ok}
use Rattle.records.specs.Limits.{most_jobs}
use Rattle.records.specs.Refusals.{Answer, Tests, given, outcome, handed}
use Rattle.records.specs.Records.{table}
use Rattle.records.specs.Jobs.{listed}
use Rattle.records.specs.declared.job.Job.{Job}
use Rattle.records.specs.declared.refusal.Refusal.{Refusal}
use Rattle.records.proofs.Outcomes.{other-turned, other-given}
use Rattle.records.proofs.FixedWidth.{cut-length}
use Rattle.configuration.specs.declared.setting.Setting.{Setting}
use Rattle.configuration.specs.Blocks.{settings_for, hand_in_tests, read_full}
use Rattle.configuration.proofs.HandIns.{read-accepts, read-list, read-turned, read-on, full-accepted}
use Rattle.marker.specs.Bounds.{bounds_of, all_served, passes}
use Rattle.marker.specs.Marks.{marked, bounds_room, put_bounds, mark_hand_in}
use Rattle.marker.proofs.Tabled.{bounds-served}
use borrow.Author.Rules.{rules}
use Rattle.marker.proofs.mark_hand_in.Goals as goal
use Rattle.marker.proofs.mark_hand_in.Goals.{Start, After-put_bounds}

-- What the call is to come to.
module _ (c : Start) where
  abbrev jobs : List Job
  jobs = listed c.args.call.jobs

  abbrev block : List ℕ
  block = c.args.configuration.now

  abbrev settings : List Setting
  settings = settings_for jobs block

  abbrev output : List ℕ
  output = c.args.output.now

  abbrev new : List ℕ
  new = marked jobs settings output

  abbrev tests : Tests
  tests = hand_in_tests jobs c.args.call.range.low c.args.call.range.high block

  abbrev room : Tests
  room = bounds_room jobs (length output)

pub returns-in_err-settings : goal.returns-in_err-settings
unfolding mark_hand_in read_full
returns-in_err-settings c =
    let s = (goal.at.returns-in_err-settings c).Start in
    let p = err_from_is_err_and c.from_residual.result c.from_residual.ensures.1 in
    rw (p.1, p.2)
    (sym (read-turned (jobs s) (tests s) (block s) c.read_full.result c.read_full.ensures (room s) (passes (jobs s) (settings s)) (new s) (output s) _ c.in_err-settings.was))

-- Past the configuration block: the settings that were handed on are those of the block, and the room decides.
module _ (c : After-put_bounds) where
  first : take c.args.call.jobs.count c.in_ok-settings.settings.table ≡ settings (goal.at.After-put_bounds c).Start
  unfolding read_full
  first =
      let s = (goal.at.After-put_bounds c).Start in
      let call = c.args.call in
      read-list (jobs s) (tests s) (block s) c.read_full.result c.read_full.ensures _ c.in_ok-settings.was call.jobs.count (cut-length call.jobs.table most_jobs call.jobs.count _ (search rules) refl)

  abbrev told : Answer (Unit {0}) × List ℕ
  told = (handed c.put_bounds.result (λ b. tt), c.put_bounds.new.output)

  abbrev written_as : Answer (Unit {0}) × List ℕ
  written_as = let s = (goal.at.After-put_bounds c).Start in outcome (room s) tt (new s) (output s)

  wrote : told ≡ written_as
  unfolding put_bounds
  wrote =
      let s = (goal.at.After-put_bounds c).Start in
      c.put_bounds.ensures.written ∙ ap (λ (x : List Setting). put_bounds (jobs s) x (output s)) first

  on : let s = (goal.at.After-put_bounds c).Start in
      outcome (room s) (all_served (jobs s) (settings s)) (new s) (output s) ≡ mark_hand_in (jobs s) c.args.call.range.low c.args.call.range.high (block s) (output s)
  unfolding mark_hand_in read_full
  on =
      let s = (goal.at.After-put_bounds c).Start in
      let a = c.args in
      ap (λ (b : Bool). outcome (room s) (b && all_served (jobs s) (settings s)) (new s) (output s))
      (sym (full-accepted (jobs s) a.call.range.low a.call.range.high (block s) (read-accepts (jobs s) (tests s) (block s) c.read_full.result c.read_full.ensures _ c.in_ok-settings.was)))
      ∙ sym (read-on (jobs s) (tests s) (block s) c.read_full.result c.read_full.ensures (room s) (passes (jobs s) (settings s)) (new s) (output s) _ c.in_ok-settings.was)

pub returns-in_err-bounds : goal.returns-in_err-bounds
returns-in_err-bounds c =
    let s = (goal.at.returns-in_err-bounds c).Start in
    let b = (goal.at.returns-in_err-bounds c).After-put_bounds in
    let p = err_from_is_err_and c.from_residual-in_err-bounds.result c.from_residual-in_err-bounds.ensures.1 in
    rw (p.1, p.2)
    (other-turned (room s) tt (all_served (jobs s) (settings s)) (new s) (output s) c.put_bounds.new.output _
    (ap (λ (x : Result (List ℕ) Refusal). (handed x (λ l. tt), c.put_bounds.new.output)) (sym c.in_err-bounds.was) ∙ wrote b)
    ∙ on b)

pub returns : goal.returns
returns c =
    let s = (goal.at.returns c).Start in
    let b = (goal.at.returns c).After-put_bounds in
    let call = c.args.call in
    let made = IfOk-at_ok (λ (l : List ℕ). l ≡ table most_jobs 0 (bounds_of (jobs s) (take call.jobs.count c.in_ok-settings.settings.table))) c.in_ok-bounds.was c.put_bounds.ensures.given in
    let served = bounds-served call.jobs.table c.in_ok-settings.settings.table call.jobs.count _ (search rules) refl _ made in
    ap (λ (x : Bool). (given x, c.put_bounds.new.output)) (c.none_zero.ensures ∙ served ∙ ap (all_served (jobs s)) (first b))
    ∙ other-given (room s) tt (all_served (jobs s) (settings s)) (new s) (output s) c.put_bounds.new.output tt
    (ap (λ (x : Result (List ℕ) Refusal). (handed x (λ l. tt), c.put_bounds.new.output)) (sym c.in_ok-bounds.was) ∙ wrote b)
    ∙ on b
