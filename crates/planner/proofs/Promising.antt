-- What is known of an accepted list and range: the guarantee of its plan, and what planning its table asks for; and what planning comes to
-- after a call. Assumes nothing.
use Prim.Native.Nat.{ℕ, ◌≤◌}
use mathlib.Core.Path.{◌≡◌, refl, sym, ap, ap₂, subst, ◌∙◌}
use mathlib.Core.List.{List, ◌++◌}
use native.Mathlib.Omega.{arith}
use lib.ListN.{length, take}
use lib.Seq.{length-take-le, get_or-take}
use borrow.Author.Tests.{leb-true}
use Rattle.records.specs.Limits.{most_jobs}
use Rattle.records.specs.Refusals.{Answer, Tests, Accepts, outcome, answer, turned}
use Rattle.std.specs.Prelude.{Result, Ok, Err}
use Rattle.records.specs.Jobs.{blank_job, table_tests, AcceptedJobs, job_list}
use Rattle.records.specs.Ranges.{range_tests, AcceptedRange}
use Rattle.records.specs.Calls.{asked, call_tests, question_tests, question}
use Rattle.records.specs.declared.job.Job.{Job}
use Rattle.records.specs.declared.range.Range.{Range}
use Rattle.records.specs.declared.call.Call.{Call}
use Rattle.records.specs.declared.refusal.Refusal.{Refusal}
use Rattle.records.proofs.Outcomes.{past, accepts-first, accepts-second, gives}
use Rattle.records.proofs.JobTests.{accepted-take}
use Rattle.records.proofs.Reading.{accepted-list, jobs-most, cost-at}
use Rattle.records.proofs.Asking.{call-accepts, knows-question, call-knows, call-turned, call-on}
use Rattle.assignment.specs.Plan.{Plan, plan, plan_by_number}
use Rattle.assignment.specs.Guarantee.{Guarantee}
use Rattle.assignment.proofs.Planned.{plan-guaranteed}
use Rattle.assignment.proofs.BothOrders.{both-orders}
use Rattle.planner.specs.Questions.{Sound}
use Rattle.planner.specs.Plans.{TablePromise, Outcome, output_tests, values, written_by, put_plan}

-- Demand 3: of an accepted list, and of an accepted job block and range.
accepted-guarantee : (jobs : List Job) → AcceptedJobs jobs → (low high : ℕ) → AcceptedRange low high → Guarantee jobs low high (plan jobs low high)
accepted-guarantee jobs ok low high range =
    plan-guaranteed jobs (λ k l. cost-at jobs ok k l) (jobs-most jobs ok) low high (leb-true 1 low range.0) (leb-true low high range.1.0)

pub call-guarantee : (jobs : List ℕ) (low high : ℕ) → Accepts (call_tests jobs low high) → Guarantee (job_list jobs) low high (plan (job_list jobs) low high)
call-guarantee jobs low high ok =
    let asked = call-accepts jobs low high ok in
    accepted-guarantee (job_list jobs) (accepted-list jobs asked.0) low high asked.1

-- Both orders of the sets place the same jobs.
pub call-orders : (jobs : List ℕ) (low high : ℕ) → Accepts (call_tests jobs low high) → (plan (job_list jobs) low high).placed ≡ (plan_by_number (job_list jobs) low high).placed
call-orders jobs low high ok =
    let asked = call-accepts jobs low high ok in
    let list = accepted-list jobs asked.0 in
    both-orders (job_list jobs) (λ k l. cost-at (job_list jobs) list k l) (jobs-most (job_list jobs) list) low high (leb-true 1 low asked.1.0) (leb-true low high asked.1.1.0)

-- What an accepted table of n jobs and a range come to.
module _ (jobs : List Job) (n : ℕ) (range : Range) (eight : length jobs ≡ most_jobs) (ok : Accepts (question_tests n jobs range)) where
  table-ok : Accepts (table_tests n jobs)
  table-ok = accepts-first (table_tests n jobs) (range_tests range.low range.high) ok

  range-ok : AcceptedRange range.low range.high
  range-ok = accepts-second (table_tests n jobs) (range_tests range.low range.high) ok

  pub question-few : n ≤ most_jobs
  question-few = leb-true _ _ table-ok.1.0

  pub question-size : length (take n jobs) ≡ n
  question-size = length-take-le n jobs (omega (arith, question-few, eight))

  list-ok : AcceptedJobs (take n jobs)
  list-ok = accepted-take n jobs (omega (arith, question-few, eight)) table-ok

  pub question-guarantee : Guarantee (take n jobs) range.low range.high (plan (take n jobs) range.low range.high)
  question-guarantee = accepted-guarantee (take n jobs) list-ok range.low range.high range-ok

  pub question-sound : Sound jobs n range
  question-sound = record {
    some = leb-true _ _ table-ok.0;
    few = question-few;
    costs = λ k l.
        let c = cost-at (take n jobs) list-ok k (omega (arith, question-size)) in
        omega (arith, c, ap (λ (job : Job). job.cost) (get_or-take n jobs k blank_job l));
    low = leb-true 1 range.low range-ok.0;
    ordered = leb-true range.low range.high range-ok.1.0;
  }

-- What plan_table promises, of an answer that is the one defined.
pub table-promise : (jobs : List Job) (n : ℕ) (range : Range) → length jobs ≡ most_jobs → (got : Answer (ℕ × Plan))
    → got ≡ answer (question_tests n jobs range) (n, plan (take n jobs) range.low range.high) → TablePromise jobs n range got
table-promise jobs n range eight got is = record {
  is = is;
  guarantee = λ p e.
      let tests = question_tests n jobs range in
      let made : ℕ × Plan = (n, plan (take n jobs) range.low range.high) in
      let told = gives tests made tt tt (outcome tests made tt tt) (n, p) refl (sym is ∙ e) in
      subst (Guarantee (take n jobs) range.low range.high) (sym (ap (λ (x : ℕ × Plan). x.1) told.1)) (question-guarantee jobs n range eight told.0);
}

-- What planning comes to where the call is turned down, and what put_plan comes to for the table and the range that it hands on where it is
-- not, `more` being the tests after the range, judged by then.
module _ (jobs : List ℕ) (low high : ℕ) (more : Tests) (asking : Result Call Refusal) (asks : asked asking ≡ answer (call_tests jobs low high ++ more) (question jobs low high)) (configuration bounds : List ℕ) where
  abbrev own : Plan
  own = plan (job_list jobs) low high

  abbrev later : Tests
  later = output_tests (job_list jobs) (length configuration) (length bounds)

  abbrev old : List ℕ × List ℕ
  old = (configuration, bounds)

  abbrev new : List ℕ × List ℕ
  new = written_by own configuration bounds

  abbrev whole : Outcome
  whole = outcome ((call_tests jobs low high ++ more) ++ later) (values own) new old

  pub put-turned : (refusal : Refusal) → asking ≡ Err refusal → turned refusal old ≡ whole
  put-turned refusal e = call-turned jobs low high more asking asks later (values own) new old refusal e

  pub put_on : (call : Call) → asking ≡ Ok call → put_plan call.jobs.table call.jobs.count call.range configuration bounds ≡ whole
  unfolding put_plan
  put_on call e =
      let known = (call-knows jobs low high more asking asks call e).1 in
      let n = call.jobs.count in
      let made = plan (take n call.jobs.table) call.range.low call.range.high in
      past (question_tests n call.jobs.table call.range) (output_tests (take n call.jobs.table) (length configuration) (length bounds)) (values made) (written_by made configuration bounds) old
      (knows-question jobs low high call known)
      ∙ ap₂ (λ (l : List Job) (x : Range). let p = plan l x.low x.high in outcome (output_tests l (length configuration) (length bounds)) (values p) (written_by p configuration bounds) old) known.list known.range
      ∙ sym (call-on jobs low high more asking asks later (values own) new old call e)
