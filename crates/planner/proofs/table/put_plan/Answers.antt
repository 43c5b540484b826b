use Prim.Native.Nat.{ℕ, ◌*◌, ◌≤◌}
use mathlib.Core.Path.{◌≡◌, sym, ap, ap₂, ◌∙◌}
use mathlib.Core.List.{List}
use native.Mathlib.Omega.{arith}
use lib.ListN.{length, take}
use borrow.Author.Tests.{lt-leb, le-leb}
use Rattle.records.specs.Limits.{most_jobs}
use Rattle.records.specs.Refusals.{Answer, Tests, given, outcome, Accepts}
use Rattle.records.specs.Records.{word_bytes, write_records}
use Rattle.std.proofs.lemmas.Result.{err_from_is_err_and}
use Rattle.records.specs.Jobs.{listed}
use Rattle.records.specs.Calls.{question_tests}
use Rattle.records.specs.declared.job.Job.{Job}
use Rattle.records.proofs.Outcomes.{turned_by, passed-by, judged-accepts}
use Rattle.records.proofs.FixedWidth.{has_room, never-turned}
use Rattle.configuration.specs.Settings.{setting_size, setting_bytes}
use Rattle.marker.specs.Marks.{bound_size}
use Rattle.configuration.specs.declared.setting.Setting.{Setting}
use Rattle.assignment.specs.Plan.{Plan, plan}
use Rattle.assignment.specs.Guarantee.{Guarantee}
use Rattle.planner.specs.Plans.{output_tests, values, written_by, put_plan}
use Rattle.planner.proofs.Answering.{settings-length, bounds-length}
use Rattle.planner.proofs.Promising.{question-few, question-size, question-guarantee, question-sound}
use borrow.Author.Rules.{rules}
use Rattle.planner.proofs.table.put_plan.Goals as goal
use Rattle.planner.proofs.table.put_plan.Goals.{After-plan_jobs-plan, Else-configuration-n, In_ok-judge_question, Start}

-- What the call is to come to.
module _ (c : Start) where
  abbrev n : ℕ
  n = c.args.call.jobs.count

  abbrev jobs : List Job
  jobs = listed c.args.call.jobs

  abbrev asked : Tests
  asked = question_tests n c.args.call.jobs.table c.args.call.range

  abbrev old : List ℕ × List ℕ
  old = (c.args.configuration.now, c.args.bounds.now)

  abbrev own : Plan
  own = plan jobs c.args.call.range.low c.args.call.range.high

  abbrev new : List ℕ × List ℕ
  new = written_by own old.0 old.1

  abbrev room : Tests
  room = output_tests jobs (length old.0) (length old.1)

  eight : length c.args.call.jobs.table ≡ most_jobs
  eight = search rules

pub returns-in_err-judge_question : goal.returns-in_err-judge_question
unfolding put_plan
returns-in_err-judge_question c =
    let s = (goal.at.returns-in_err-judge_question c).Start in
    let p = err_from_is_err_and c.from_residual.result c.from_residual.ensures.1 in
    rw (p.1, p.2) (sym (turned_by (asked s) c.judge_question.result c.judge_question.ensures (room s) (values (own s)) (new s) (old s) _ c.in_err-judge_question.was))

-- Accepted by the judge: the rooms decide.
module _ (c : In_ok-judge_question) where
  abbrev s : Start
  s = (goal.at.In_ok-judge_question c).Start

  accepted : Accepts (asked s)
  accepted = judged-accepts (asked s) c.judge_question.result c.judge_question.ensures _ c.in_ok-judge_question.was

  few : n s ≤ most_jobs
  few = question-few c.args.call.jobs.table (n s) c.args.call.range (eight s) accepted

  size : length (jobs s) ≡ n s
  size = question-size c.args.call.jobs.table (n s) c.args.call.range (eight s) accepted

  on : put_plan c.args.call.jobs.table (n s) c.args.call.range (old s).0 (old s).1 ≡ outcome (room s) (values (own s)) (new s) (old s)
  unfolding put_plan
  on = passed-by (asked s) c.judge_question.result c.judge_question.ensures (room s) (values (own s)) (new s) (old s) _ c.in_ok-judge_question.was

pub overflow_mul-n : goal.overflow_mul-n
overflow_mul-n c = omega (arith, few (goal.at.overflow_mul-n c).In_ok-judge_question)

pub returns-then-configuration-n : goal.returns-then-configuration-n
returns-then-configuration-n c =
    let i = (goal.at.returns-then-configuration-n c).In_ok-judge_question in
    sym (on i ∙ simp (lt-leb (setting_size * length (jobs (s i))) (length (old (s i)).0) (omega (arith, size i, c.if-configuration-n.true))))

pub overflow_mul-n-2 : goal.overflow_mul-n-2
overflow_mul-n-2 c = omega (arith, few (goal.at.overflow_mul-n-2 c).In_ok-judge_question)

-- The first output has room.
settings-room : (c : Else-configuration-n) → let b = (goal.at.Else-configuration-n c).Start in setting_size * length (jobs b) ≤ length (old b).0
settings-room c = omega (arith, size (goal.at.Else-configuration-n c).In_ok-judge_question, c.if-configuration-n.false)

pub returns-then-bounds-n : goal.returns-then-bounds-n
returns-then-bounds-n c =
    let i = (goal.at.returns-then-bounds-n c).In_ok-judge_question in
    let e = (goal.at.returns-then-bounds-n c).Else-configuration-n in
    sym (on i ∙ simp (le-leb _ _ (settings-room e), lt-leb (bound_size * length (jobs (s i))) (length (old (s i)).1) (omega (arith, size i, c.if-bounds-n.true))))

pub plan_jobs-plan-requires : goal.plan_jobs-plan-requires
plan_jobs-plan-requires c =
    let i = (goal.at.plan_jobs-plan-requires c).In_ok-judge_question in
    question-sound c.args.call.jobs.table (n (s i)) c.args.call.range (eight (s i)) (accepted i)

-- The plan is the rule's, and both outputs have room for it.
module _ (c : After-plan_jobs-plan) where
  abbrev i : In_ok-judge_question
  i = (goal.at.After-plan_jobs-plan c).In_ok-judge_question

  abbrev b : Start
  b = s i

  G : Guarantee (jobs b) c.args.call.range.low c.args.call.range.high (own b)
  G = question-guarantee c.args.call.jobs.table (n b) c.args.call.range (eight b) (accepted i)

  bounds-room : bound_size * length (jobs b) ≤ length (old b).1
  bounds-room = omega (arith, size i, c.if-bounds-n.false)

  settings-are : take (n b) c.plan_jobs-plan.result.settings ≡ (own b).settings
  settings-are = ap (λ (x : Plan). x.settings) c.plan_jobs-plan.ensures

  bounds-are : take (n b) c.plan_jobs-plan.result.bounds ≡ (own b).bounds
  bounds-are = ap (λ (x : Plan). x.bounds) c.plan_jobs-plan.ensures

  settings-fit : setting_size * length (own b).settings ≤ length (old b).0
  settings-fit = omega (arith, settings-length (jobs b) c.args.call.range.low c.args.call.range.high (own b) G, settings-room (goal.at.After-plan_jobs-plan c).Else-configuration-n)

  bounds-fit : bound_size * length (own b).bounds ≤ length (old b).1
  bounds-fit = omega (arith, bounds-length (jobs b) c.args.call.range.low c.args.call.range.high (own b) G, bounds-room)

  settings-told : (after : Answer ℕ × List ℕ) → after ≡ write_records setting_size setting_bytes (take (n b) c.plan_jobs-plan.result.settings) (old b).0
      → after ≡ write_records setting_size setting_bytes (own b).settings (old b).0
  settings-told after e = e ∙ ap (λ (l : List Setting). write_records setting_size setting_bytes l (old b).0) settings-are

  bounds-told : (after : Answer ℕ × List ℕ) → after ≡ write_records bound_size word_bytes (take (n b) c.plan_jobs-plan.result.bounds) (old b).1
      → after ≡ write_records bound_size word_bytes (own b).bounds (old b).1
  bounds-told after e = e ∙ ap (λ (l : List ℕ). write_records bound_size word_bytes l (old b).1) bounds-are

pub returns-in_err-write : goal.returns-in_err-write
returns-in_err-write c =
    let p = (goal.at.returns-in_err-write c).After-plan_jobs-plan in
    absurd (never-turned setting_size setting_bytes (own (b p)).settings (old (b p)).0 c.write.result c.write.new.output (settings-told p _ c.write.ensures) (settings-fit p) _ c.in_err-write.was)

pub returns-in_err-write-2 : goal.returns-in_err-write-2
returns-in_err-write-2 c =
    let p = (goal.at.returns-in_err-write-2 c).After-plan_jobs-plan in
    absurd (never-turned bound_size word_bytes (own (b p)).bounds (old (b p)).1 c.write-2.result c.write-2.new.output (bounds-told p _ c.write-2.ensures) (bounds-fit p) _ c.in_err-write-2.was)

pub returns : goal.returns
returns c =
    let p = (goal.at.returns c).After-plan_jobs-plan in
    let settings = ap (λ (x : Answer ℕ × List ℕ). x.1) (settings-told p _ c.write.ensures) ∙ has_room setting_size setting_bytes (own (b p)).settings (old (b p)).0 (settings-fit p) in
    let bounds = ap (λ (x : Answer ℕ × List ℕ). x.1) (bounds-told p _ c.write-2.ensures) ∙ has_room bound_size word_bytes (own (b p)).bounds (old (b p)).1 (bounds-fit p) in
    ap₂ (λ (x : ℕ × ℕ) (y : List ℕ × List ℕ). (given x, y)) (ap values c.plan_jobs-plan.ensures) (ap₂ (λ (x y : List ℕ). (x, y)) settings bounds)
    ∙ sym (on (i p) ∙ simp (le-leb _ _ (settings-room (goal.at.returns c).Else-configuration-n), le-leb _ _ (bounds-room p)))
