-- What a caller of read_call knows from its answer, whatever tests stand between the range and what follows. Assumes nothing.
use Prim.Native.Nat.{ℕ, ◌≤◌}
use mathlib.Core.Path.{◌≡◌, refl, sym, ap, subst, ◌∙◌}
use mathlib.Core.List.{List, [], ◌++◌, append-nil}
use native.Mathlib.Omega.{arith}
use lib.ListN.{length, length-take}
use Rattle.std.specs.Prelude.{Result, Ok, Err}
use Rattle.records.specs.Limits.{most_jobs}
use Rattle.records.specs.Refusals.{Answer, refused, given, number, Tests, outcome, answer, verdict, turned, Accepts}
use Rattle.records.specs.Jobs.{table_tests, AcceptedJobs, block_tests, job_count, job_list, listed}
use Rattle.records.specs.Ranges.{range_of, range_tests}
use Rattle.records.specs.Calls.{Asked, asks, asked, judged_by, call_tests, question_tests, question, read_call}
use Rattle.records.specs.declared.range.Range.{Range}
use Rattle.records.specs.declared.call.Call.{Call}
use Rattle.records.specs.declared.refusal.Refusal.{Refusal}
use Rattle.records.proofs.Outcomes.{handed-on, turned_by, passed-by, turned_down, gone-past, accepts-both, accepts-first, accepts-second}
use Rattle.records.proofs.JobTests.{accepted-table}
use Rattle.records.proofs.Reading.{jobs-listed, count_most, accepted-list}

-- What an accepted call hands on: the block's jobs and their number, and the range.
pub record Knows (jobs : List ℕ) (low high : ℕ) (call : Call) : Type 0 where
  pub block : Accepts (block_tests jobs)
  pub allowed : Accepts (range_tests low high)
  pub count : call.jobs.count ≡ job_count jobs
  pub few : call.jobs.count ≤ most_jobs
  pub within : call.jobs.count ≤ length call.jobs.table
  pub list : listed call.jobs ≡ job_list jobs
  pub range : call.range ≡ range_of low high

-- The two parts of the tests.
pub call-accepts : (jobs : List ℕ) (low high : ℕ) → Accepts (call_tests jobs low high) → Accepts (block_tests jobs) × Accepts (range_tests low high)
call-accepts jobs low high ok = (accepts-first (block_tests jobs) (range_tests low high) ok, accepts-second (block_tests jobs) (range_tests low high) ok)

-- A call that is accepted hands on a table and a range that are accepted.
pub knows-question : (jobs : List ℕ) (low high : ℕ) (call : Call) → Knows jobs low high call → Accepts (question_tests call.jobs.count call.jobs.table call.range)
knows-question jobs low high call known =
    let list-ok : AcceptedJobs (listed call.jobs) = subst AcceptedJobs (sym known.list) (accepted-list jobs known.block) in
    accepts-both (table_tests call.jobs.count call.jobs.table) (range_tests call.range.low call.range.high)
    (accepted-table call.jobs.count call.jobs.table known.within list-ok)
    (subst (λ (x : Range). Accepts (range_tests x.low x.high)) (sym known.range) known.allowed)

-- `more` are the tests of the call after those of the range, judged by then.
module _ (jobs : List ℕ) (low high : ℕ) (more : Tests) (r : Result Call Refusal) (is : asked r ≡ answer (call_tests jobs low high ++ more) (question jobs low high)) where
  abbrev tests : Tests
  tests = call_tests jobs low high ++ more

  pub call-knows : (call : Call) → r ≡ Ok call → Accepts more × Knows jobs low high call
  call-knows call e =
      let on = handed-on tests (question jobs low high) tt tt r asks is call e in
      let own = call-accepts jobs low high (accepts-first (call_tests jobs low high) more on.0) in
      let count : call.jobs.count ≡ job_count jobs = ap (λ (x : Asked). x.0) on.1 in
      let list : listed call.jobs ≡ job_list jobs = ap (λ (x : Asked). x.1.0) on.1 in (
        accepts-second (call_tests jobs low high) more on.0,
        record {
          block = own.0;
          allowed = own.1;
          count = count;
          few = omega (arith, count, count_most jobs own.0);
          within = omega (arith, count, length-take call.jobs.count call.jobs.table, ap length list, jobs-listed jobs);
          list = list;
          range = ap (λ (x : Asked). x.1.1) on.1;
        },
      )

  module _ {A B : Type 0} (later : Tests) (values : A) (new old : B) where
    -- Turned down: the refusal of the call decides.
    pub call-turned : (refusal : Refusal) → r ≡ Err refusal → turned refusal old ≡ outcome (tests ++ later) values new old
    call-turned refusal e = sym (turned_down tests (question jobs low high) tt tt r asks is later values new old refusal e)

    -- Gone past: the later tests decide.
    pub call-on : (call : Call) → r ≡ Ok call → outcome (tests ++ later) values new old ≡ outcome later values new old
    call-on call e = gone-past tests (question jobs low high) tt tt r asks is later values new old call e

-- An entry's own tests after the range, `more`: a call that was turned down before them, and one that they judge.
module _ (jobs : List ℕ) (low high : ℕ) (r : Result Call Refusal) (is : asked r ≡ read_call jobs low high) (more : Tests) where
  abbrev longer : Answer Asked
  longer = answer (call_tests jobs low high ++ more) (question jobs low high)

  -- The answer part of an outcome.
  abbrev told : Answer Asked × Unit {0} → Answer Asked
  told x = x.0

  pub more-before : (refusal : Refusal) → r ≡ Err refusal → refused (number refusal) ≡ longer
  more-before refusal e = sym (ap told (turned_down (call_tests jobs low high) (question jobs low high) tt tt r asks is more (question jobs low high) tt tt refusal e))

  module _ (call : Call) (handed_is : r ≡ Ok call) (v : Result (Unit {0}) Refusal) (judged : verdict v ≡ answer more tt) where
    past-range : longer ≡ answer (more ++ []) (question jobs low high)
    past-range =
        ap told (gone-past (call_tests jobs low high) (question jobs low high) tt tt r asks is more (question jobs low high) tt tt call handed_is)
        ∙ ap (λ (t : Tests). answer t (question jobs low high)) (sym (append-nil more))

    pub more-turned : (refusal : Refusal) → v ≡ Err refusal → refused (number refusal) ≡ longer
    more-turned refusal e = sym (past-range ∙ ap told (turned_by more v judged [] (question jobs low high) tt tt refusal e))

    pub more-on : (u : Unit {0}) → v ≡ Ok u → given (asks call) ≡ longer
    more-on u e =
        let on = handed-on (call_tests jobs low high) (question jobs low high) tt tt r asks is call handed_is in
        ap given on.1 ∙ sym (past-range ∙ ap told (passed-by more v judged [] (question jobs low high) tt tt u e))

    -- The call after that judgement.
    pub more-judged : judged_by v (asked r) ≡ longer
    more-judged = ap (λ (x : Result Call Refusal). judged_by v (asked x)) handed_is ∙ by v refl
      where
        by : (w : Result (Unit {0}) Refusal) → v ≡ w → judged_by w (given (asks call)) ≡ longer
        by (Ok u) e = more-on u e
        by (Err refusal) e = more-turned refusal e
