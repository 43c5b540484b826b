-- What is known of an accepted job block and of its list of jobs, and what a caller of read_jobs knows. Assumes nothing.
use Prim.Native.Nat.{ℕ, zero, suc, ◌+◌, ◌%◌, ◌*◌, ◌≤◌, ◌<◌}
use mathlib.Core.Path.{◌≡◌, refl, sym, ap, subst, ◌∙◌}
use mathlib.Core.Bool.{true, ◌&&◌, and-eq-true_iff}
use mathlib.Core.List.{List, []}
use native.Mathlib.Decide.{dec_le}
use native.Mathlib.Omega.{arith}
use lib.Dec.{leb}
use lib.ListN.{length, get_or, drop, get_or-eq_default}
use lib.Seq.{get_or-drop}
use borrow.Author.Tests.{leb-true, eqb-true, le-leb}
use Rattle.sets.proofs.Places.{every-at}
use Rattle.records.specs.Limits.{longest_period, longest_deadline, most_jobs}
use Rattle.records.specs.Records.{chunks}
use Rattle.std.specs.Prelude.{Result, Ok, Err}
use Rattle.records.specs.Refusals.{Answer, outcome, handed, Accepts}
use Rattle.records.specs.Jobs.{job_size, job_of, blank_job, job_at, NoDelay, times_ok, job_ok_at, job_tests, count_tests, table_tests, AcceptedJobs, block_tests, job_count, jobs_in, job_list, job_table, jobs_outcome, read_jobs}
use Rattle.records.specs.declared.job.Job.{Job}
use Rattle.records.specs.declared.judge.JobRule.TheVariants.{Times}
use Rattle.records.specs.declared.refusal.Refusal.{Refusal}
use Rattle.records.specs.declared.block.JobTable.{JobTable}
use Rattle.records.proofs.Outcomes.{gives, accepts-both}
use Rattle.records.proofs.FixedWidth.{length-chunks}

-- ---- an accepted block

pub jobs-listed : (block : List ℕ) → length (job_list block) ≡ job_count block
jobs-listed block = length-chunks job_size job_of (job_count block) block

module _ (block : List ℕ) (ok : Accepts (block_tests block)) where
  pub count_most : job_count block ≤ most_jobs
  count_most = let l : length block ≤ most_jobs * job_size = leb-true _ _ ok.1.0 in omega arith

  count-accepted : Accepts (count_tests (job_count block))
  count-accepted =
      let few : 1 ≤ length block = leb-true _ _ ok.0 in
      let whole : length block % job_size ≡ 0 = eqb-true _ _ ok.1.1.0 in
      (le-leb 1 (job_count block) (omega arith), (le-leb (job_count block) most_jobs count_most, tt))

  -- Its jobs are an accepted list.
  pub accepted-list : AcceptedJobs (job_list block)
  accepted-list =
      let n : length (job_list block) ≡ job_count block = jobs-listed block in
      subst (λ (k : ℕ). Accepts (table_tests k (job_list block))) (sym n)
      (accepts-both (count_tests (job_count block)) (job_tests (job_count block) (job_list block)) count-accepted ok.1.1.1)

-- ---- an accepted list

times-held : (cost period deadline : ℕ) → times_ok cost period deadline ≡ true → (1 ≤ cost) × ((period ≤ longest_period) × (deadline ≤ longest_deadline))
unfolding times_ok
times-held cost period deadline e =
    let d = (and-eq-true_iff (leb 1 cost && leb cost deadline && leb cost period && leb period longest_period) (leb deadline longest_deadline)).0 e in
    let p = (and-eq-true_iff (leb 1 cost && leb cost deadline && leb cost period) (leb period longest_period)).0 d.0 in
    let c = (and-eq-true_iff (leb 1 cost && leb cost deadline) (leb cost period)).0 p.0 in
    (leb-true 1 cost ((and-eq-true_iff (leb 1 cost) (leb cost deadline)).0 c.0).0, (leb-true period longest_period p.1, leb-true deadline longest_deadline d.1))

module _ (jobs : List Job) (ok : AcceptedJobs jobs) where
  pub jobs-most : length jobs ≤ most_jobs
  jobs-most = leb-true _ _ ok.1.0

  -- Refusal 5 lets each job by, so each has a cost.
  times-at : (i : ℕ) → i < length jobs → times_ok (job_at jobs i).cost (job_at jobs i).period (job_at jobs i).deadline ≡ true
  times-at i l = every-at (job_ok_at Times jobs) (length jobs) ok.1.1.1.1.0 i l

  pub cost-at : (i : ℕ) → i < length jobs → 1 ≤ (job_at jobs i).cost
  cost-at i l = (times-held (job_at jobs i).cost (job_at jobs i).period (job_at jobs i).deadline (times-at i l)).0

  -- And neither its period nor its deadline is longer than the longest.
  pub longest-at : (i : ℕ) → i < length jobs → ((job_at jobs i).period ≤ longest_period) × ((job_at jobs i).deadline ≤ longest_deadline)
  longest-at i l = (times-held (job_at jobs i).cost (job_at jobs i).period (job_at jobs i).deadline (times-at i l)).1

-- ---- a block without delays

-- A job's delay is the second byte of its record.
delay-is : (n : ℕ) (block : List ℕ) (i : ℕ) → i < n → (job_at (jobs_in n block) i).delay ≡ get_or block (job_size * i + 1) 0
unfolding chunks job_of
delay-is zero block i l = absurd (omega arith)
delay-is (suc n) block zero l = refl
delay-is (suc n) block (suc i) l =
    let e : job_size + (job_size * i + 1) ≡ job_size * suc i + 1 = omega arith in
    delay-is n (drop job_size block) i (omega arith) ∙ get_or-drop job_size block (job_size * i + 1) 0 ∙ ap (λ (k : ℕ). get_or block k 0) e

-- Second bytes of 0, which 01 alone asks for: no job has a delay.
pub old-block : (block : List ℕ) → ((i : ℕ) → i < job_count block → get_or block (job_size * i + 1) 0 ≡ 0) → NoDelay (job_list block)
old-block block zeros i = elim (dec_le (suc i) (job_count block)) [
  | yes l ↦ delay-is (job_count block) block i l ∙ zeros i l
  | no l ↦ ap (λ (job : Job). job.delay) (get_or-eq_default (job_list block) blank_job (omega (arith, jobs-listed block)))
]

-- ---- after a call of read_jobs

-- The number of jobs alone.
pub jobs-told : (block : List ℕ) (r : Result JobTable Refusal) → jobs_outcome r ≡ read_jobs block
    → handed r (λ jobs. jobs.count) ≡ (outcome (block_tests block) (job_count block) (job_table (job_list block)) (job_table [])).0
unfolding read_jobs
jobs-told block (Ok jobs) ensured = ap (λ (x : Answer ℕ × List Job). x.0) ensured
jobs-told block (Err refusal) ensured = ap (λ (x : Answer ℕ × List Job). x.0) ensured

pub jobs-read : (block : List ℕ) (r : Result JobTable Refusal) → jobs_outcome r ≡ read_jobs block → (jobs : JobTable) → r ≡ Ok jobs
    → Accepts (block_tests block) × (jobs.count ≡ job_count block) × (jobs.table ≡ job_table (job_list block))
unfolding read_jobs
jobs-read block r ensured jobs e =
    gives (block_tests block) (job_count block) (job_table (job_list block)) (job_table []) (jobs_outcome (Ok jobs)) jobs.count (ap jobs_outcome (sym e) ∙ ensured) refl
