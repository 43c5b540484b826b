-- The text made of a plan's tables is the key. Assumes nothing.
use Prim.Native.Nat.{ℕ, ◌+◌, ◌^◌, ◌≤◌, ◌<◌}
use mathlib.Core.Path.{◌≡◌, sym, ap, ap₂, ◌∙◌}
use mathlib.Core.Bool.{Bool}
use mathlib.Core.List.{List, [], ◌∷◌, ◌++◌}
use native.Mathlib.Omega.{arith}
use lib.Dec.{eqb}
use lib.ListN.{length, get_or, take}
use lib.Seq.{sets, length-sets, sets-eq, get_or-take, take_at}
use Rattle.sets.specs.Places.{count}
use Rattle.sets.specs.Sets.{has, size}
use Rattle.sets.proofs.Places.{count_same}
use Rattle.sets.proofs.Parts.{size-count}
use Rattle.records.specs.Limits.{most_jobs}
use Rattle.records.specs.Refusals.{Answer, refused, given, number, Accepts}
use Rattle.records.specs.Jobs.{block_tests, job_count, job_list}
use Rattle.records.specs.Ranges.{range_tests}
use Rattle.records.specs.Calls.{asked, call_tests, question_tests, question, read_call}
use Rattle.records.specs.declared.job.Job.{Job}
use Rattle.records.specs.declared.range.Range.{Range}
use Rattle.std.specs.Prelude.{Result, Ok, Err}
use Rattle.records.specs.declared.call.Call.{Call}
use Rattle.records.specs.declared.refusal.Refusal.{Refusal}
use Rattle.records.proofs.Outcomes.{accepts, accepts-both, refuses-alike, handed-on}
use Rattle.records.proofs.Reading.{jobs-listed}
use Rattle.records.proofs.Asking.{Knows, call-knows, knows-question}
use Rattle.configuration.specs.declared.setting.Setting.{Setting}
use Rattle.configuration.specs.Settings.{blank_setting, setting_at}
use Rattle.configuration.specs.Configuration.{is_placed}
use Rattle.assignment.specs.Plan.{Plan, plan}
use Rattle.assignment.specs.Guarantee.{Guarantee}
use Rattle.assignment.proofs.Planned.{placed_less}
use Rattle.planner.specs.declared.table.TablePlan.{TablePlan}
use Rattle.planner.specs.Plans.{plan_in, planned, TablePromise}
use Rattle.planner.proofs.Holding.{plan-held}
use Rattle.text.specs.Keys.{job_line, last_line, key_text, refused_text, key_or, key_of, key_answer, KeyPromise, table_text}
use Rattle.writing.proofs.Writing.{rows_same}

-- As many jobs are placed as the plan's set has.
abbrev placed_of : ℕ → List Setting → ℕ
placed_of n settings = count n (is_placed settings)

placed-count : (jobs : List Job) (low high : ℕ) (p : Plan) → Guarantee jobs low high p → p.placed < 2 ^ length jobs → size p.placed ≡ placed_of (length jobs) p.settings
placed-count jobs low high p guaranteed less =
    size-count (length jobs) p.placed less ∙ count_same (length jobs) (has p.placed) (is_placed p.settings) guaranteed.placed

-- Tables that begin with a plan of n jobs.
made : (jobs : List Job) (low high : ℕ) (p : Plan) → Guarantee jobs low high p → p.placed < 2 ^ length jobs → (n : ℕ) → length jobs ≡ n → (r : TablePlan) → plan_in n r ≡ p
    → table_text r.settings r.bounds (size r.placed) n ≡ key_text (length jobs) p
unfolding table_text key_text
made jobs low high p guaranteed less n counted r is =
    let setting : (k : ℕ) → k < n → setting_at r.settings k ≡ setting_at p.settings k =
    λ k l. sym (get_or-take n r.settings k blank_setting l) ∙ ap (λ (x : Plan). setting_at x.settings k) is in
    let bound : (k : ℕ) → k < n → get_or r.bounds k 0 ≡ get_or p.bounds k 0 =
    λ k l. sym (get_or-take n r.bounds k 0 l) ∙ ap (λ (x : Plan). get_or x.bounds k 0) is in
    ap₂ ◌++◌
    (rows_same (job_line r.settings r.bounds) (job_line p.settings p.bounds) n
    (λ k l. ap₂ (λ (s : Setting) (b : ℕ). job_line (s ∷ []) (b ∷ []) 0) (setting k l) (bound k l)))
    (ap (λ (x : Plan). last_line (size x.placed) n) is
    ∙ ap (λ (m : ℕ). last_line m n) (placed-count jobs low high p guaranteed less ∙ ap (λ (m : ℕ). placed_of m p.settings) counted))
    ∙ ap (λ (m : ℕ). key_text m p) (sym counted)

-- ---- what the answers say of the text

module _ (jobs : List ℕ) (low high : ℕ) (asking : Result Call Refusal) (asks : asked asking ≡ read_call jobs low high) where
  -- A call that is refused: the key is its line.
  pub key-refused : (refusal : Refusal) → asking ≡ Err refusal → refused_text (number refusal) ≡ key_of jobs low high
  unfolding key_of
  key-refused refusal e =
      let told = sym asks ∙ ap asked e in
      sym (ap (λ (x : Answer (Unit {0}) × Unit {0}). key_or x.0 (key_text (length (job_list jobs)) (plan (job_list jobs) low high)))
      (refuses-alike (call_tests jobs low high) (question jobs low high) tt tt tt tt tt (number refusal) told))

  pub answer-refused : (refusal : Refusal) → asking ≡ Err refusal → refused (number refusal) ≡ key_answer jobs low high
  unfolding key_answer
  answer-refused refusal e =
      let told = sym asks ∙ ap asked e in
      sym (ap (λ (x : Answer Bool × Unit {0}). x.0) (refuses-alike (call_tests jobs low high) (question jobs low high) tt tt _ tt tt (number refusal) told))

  -- A call that is accepted: its jobs are planned, and the key is made of the plan's tables.
  module _ (call : Call) (given-call : asking ≡ Ok call) (planning : Result TablePlan Refusal) (promised : TablePromise call.jobs.table call.jobs.count call.range (planned call.jobs.count planning)) where
    abbrev n : ℕ
    n = call.jobs.count

    known : Knows jobs low high call
    known = (call-knows jobs low high [] asking asks call given-call).1

    ok : Accepts (question_tests n call.jobs.table call.range)
    ok = knows-question jobs low high call known

    abbrev list : List Job
    list = take n call.jobs.table

    abbrev own : Plan
    own = plan list call.range.low call.range.high

    told : planned n planning ≡ given (n, own)
    told = promised.is ∙ ap (λ (x : Answer (ℕ × Plan) × Unit {0}). x.0) (accepts (n, own) tt tt (question_tests n call.jobs.table call.range) ok)

    pub key-planned : (refusal : Refusal) → planning ≡ Err refusal → ⊥
    key-planned refusal e =
        let z : ◌≡◌ {A = Answer (ℕ × Plan)} (refused (number refusal)) (given (n, own)) = sym (ap (planned n) e) ∙ told in
        let y : ◌≡◌ {A = ℕ} 0 1 = cc in
        omega arith

    module _ (r : TablePlan) (made-plan : planning ≡ Ok r) where
      is : ◌≡◌ {A = ℕ × Plan} (n, plan_in n r) (n, own)
      is = (handed-on (question_tests n call.jobs.table call.range) (n, own) tt tt planning (λ p. (n, plan_in n p)) promised.is r made-plan).1

      pub key-few : n ≤ most_jobs
      key-few = known.few

      sized : length list ≡ n
      sized = ap length known.list ∙ jobs-listed jobs ∙ sym known.count

      less : own.placed < 2 ^ length list
      less = placed_less list (omega (arith, sized, key-few)) call.range.low call.range.high

      called : Accepts (call_tests jobs low high)
      called = accepts-both (block_tests jobs) (range_tests low high) known.block known.allowed

      pub answer-given : given (eqb (size r.placed) n) ≡ key_answer jobs low high
      unfolding key_answer
      answer-given =
          let taken : r.placed ≡ own.placed = ap (λ (x : ℕ × Plan). x.1.placed) is in
          ap (λ (k : ℕ). given (eqb k n)) (ap size taken ∙ placed-count list call.range.low call.range.high own (promised.guarantee own told) less)
          ∙ ap (λ (k : ℕ). given (eqb (placed_of (length list) own.settings) k)) (sym sized)
          ∙ ap₂ (λ (l : List Job) (x : Range). given (eqb (placed_of (length l) (plan l x.low x.high).settings) (length l))) known.list known.range
          ∙ sym (ap (λ (x : Answer Bool × Unit {0}). x.0) (accepts _ tt tt (call_tests jobs low high) called))

      pub key-text : table_text r.settings r.bounds (size r.placed) n ≡ key_of jobs low high
      unfolding key_of
      key-text =
          made list call.range.low call.range.high own (promised.guarantee own told) less n sized r (ap (λ (x : ℕ × Plan). x.1) is)
          ∙ ap₂ (λ (l : List Job) (x : Range). key_text (length l) (plan l x.low x.high)) known.list known.range
          ∙ sym (ap (λ (x : Answer (Unit {0}) × Unit {0}). key_or x.0 (key_text (length (job_list jobs)) (plan (job_list jobs) low high))) (accepts tt tt tt (call_tests jobs low high) called))

-- ---- the promise

-- Of a text that fills a buffer from its start.
pub key-promise : (jobs : List ℕ) (low high : ℕ) (old new : List ℕ) (r : ℕ) → (r ≤ length new) × (r ≡ length (key_of jobs low high)) × (new ≡ sets old 0 (key_of jobs low high))
    → (r ≤ length new) × (new ≡ sets old 0 (key_of jobs low high)) × KeyPromise jobs low high (take r new)
unfolding key_of
key-promise jobs low high old new r (fits, long, bytes) = (
  fits,
  bytes,
  record {
    is = held;
    guarantee = λ ok. (plan (job_list jobs) low high, held ∙ planned-text ok, plan-held jobs low high ok);
  },
)
  where
    held : take r new ≡ key_of jobs low high
    held =
        let room : 0 + length (key_of jobs low high) ≤ length old = omega (arith, ap length bytes ∙ length-sets old 0 (key_of jobs low high)) in
        ap (take r) (bytes ∙ sets-eq (key_of jobs low high) old 0 room) ∙ take_at (key_of jobs low high) _ r (sym long)

    planned-text : Accepts (call_tests jobs low high) → key_of jobs low high ≡ key_text (job_count jobs) (plan (job_list jobs) low high)
    planned-text ok =
        ap (λ (x : Answer (Unit {0}) × Unit {0}). key_or x.0 (key_text (length (job_list jobs)) (plan (job_list jobs) low high))) (accepts tt tt tt (call_tests jobs low high) ok)
        ∙ ap (λ (m : ℕ). key_text m (plan (job_list jobs) low high)) (jobs-listed jobs)
