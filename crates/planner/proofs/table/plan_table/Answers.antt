use Prim.Native.Nat.{ℕ}
use mathlib.Core.Path.{◌≡◌, sym, ap, ◌∙◌}
use lib.ListN.{length}
use Rattle.std.proofs.lemmas.Result.{err_from_is_err_and}
use Rattle.records.specs.Limits.{most_jobs}
use Rattle.records.specs.Refusals.{Answer, given, verdict, Accepts}
use Rattle.records.specs.Jobs.{listed}
use Rattle.records.specs.Calls.{question_tests}
use Rattle.records.proofs.Outcomes.{refuses-alike, gives-alike, judged-accepts}
use Rattle.assignment.specs.Plan.{Plan, plan}
use Rattle.planner.proofs.Promising.{question-sound, table-promise}
use borrow.Author.Rules.{rules}
use Rattle.planner.proofs.table.plan_table.Goals as goal
use Rattle.planner.proofs.table.plan_table.Goals.{In_ok-judge_question, Start}

-- The plan of the call's jobs.
module _ (c : Start) where
  abbrev own : Plan
  own = let call = c.args.call in plan (listed call.jobs) call.range.low call.range.high

  eight : length c.args.call.jobs.table ≡ most_jobs
  eight = search rules

  abbrev told : Answer (ℕ × Plan) × Unit {0} → Answer (ℕ × Plan)
  told x = x.0

pub returns-in_err-judge_question : goal.returns-in_err-judge_question
returns-in_err-judge_question c =
    let s = (goal.at.returns-in_err-judge_question c).Start in
    let call = c.args.call in
    let n = call.jobs.count in
    let jobs = call.jobs.table in
    let p = err_from_is_err_and c.from_residual.result c.from_residual.ensures.1 in
    rw (p.1, p.2)
    (table-promise jobs n call.range (eight s) _
    (sym (ap (told s) (refuses-alike (question_tests n jobs call.range) tt tt tt (n, own s) tt tt _ (sym c.judge_question.ensures ∙ ap verdict c.in_err-judge_question.was)))))

-- Accepted by the judge.
accepted : (c : In_ok-judge_question) → let call = c.args.call in Accepts (question_tests call.jobs.count call.jobs.table call.range)
accepted c =
    let call = c.args.call in
    judged-accepts (question_tests call.jobs.count call.jobs.table call.range) c.judge_question.result c.judge_question.ensures _ c.in_ok-judge_question.was

pub plan_jobs-requires : goal.plan_jobs-requires
plan_jobs-requires c =
    let call = c.args.call in
    question-sound call.jobs.table call.jobs.count call.range (eight (goal.at.plan_jobs-requires c).Start) (accepted (goal.at.plan_jobs-requires c).In_ok-judge_question)

pub returns : goal.returns
returns c =
    let s = (goal.at.returns c).Start in
    let call = c.args.call in
    let n = call.jobs.count in
    let jobs = call.jobs.table in
    table-promise jobs n call.range (eight s) _
    (ap (λ (x : Plan). given (n, x)) c.plan_jobs.ensures
    ∙ sym (ap (told s) (gives-alike (question_tests n jobs call.range) tt tt tt (n, own s) tt tt tt (sym c.judge_question.ensures ∙ ap verdict c.in_ok-judge_question.was))))
