-- The tests of jobs see a table as they see the list that it begins with, and what they say of each job. Assumes nothing.
use Prim.Native.Nat.{ℕ, zero, suc, ◌-◌, ◌≤◌, ◌<◌}
use mathlib.Core.Bool.{true, ◌&&◌, and-true, and-false}
use mathlib.Core.Path.{◌≡◌, refl, sym, ap, ap₂, subst, ◌∙◌}
use mathlib.Core.List.{List, ◌++◌}
use native.Mathlib.Decide.{dec_le}
use native.Mathlib.Omega.{arith}
use lib.Dec.{leb}
use lib.ListN.{length, take}
use lib.Seq.{get_or-take, length-take-le}
use Rattle.sets.specs.Places.{every}
use Rattle.sets.proofs.Places.{every-same}
use borrow.Author.Tests.{le-leb, lt-leb}
use Rattle.records.specs.Limits.{most_jobs, longest_period, longest_deadline}
use Rattle.records.specs.Refusals.{Tests, Accepts}
use Rattle.records.specs.Jobs.{blank_job, job_at, times_ok, job_ok, id_before, job_ok_at, job_tests, count_tests, table_tests, AcceptedJobs, job_table}
use Rattle.records.specs.declared.job.Job.{Job}
use Rattle.records.specs.declared.judge.JobRule.{JobRule}
use Rattle.records.specs.declared.judge.JobRule.TheVariants.{Id, Order, Times}
use Rattle.records.proofs.FixedWidth.{table_at}

module _ (n : ℕ) (a b : List Job) (same : (i : ℕ) → i < n → job_at a i ≡ job_at b i) where
  before_same : (i : ℕ) → i < n → id_before a i ≡ id_before b i
  before_same zero l = refl
  before_same (suc i) l = ap (λ (job : Job). job.id) (same i (omega arith))

  every-ok : (rule : JobRule) → every (job_ok_at rule a) n ≡ every (job_ok_at rule b) n
  every-ok rule = every-same (job_ok_at rule a) (job_ok_at rule b) n (λ i l. ap₂ (job_ok rule) (before_same i l) (same i l))

  tests_same : job_tests n a ≡ job_tests n b
  tests_same = rw (every-ok Id, every-ok Order, every-ok Times)

pub tests-table : (n : ℕ) (jobs : List Job) → job_tests n (job_table jobs) ≡ job_tests n jobs
tests-table n jobs = tests_same n (job_table jobs) jobs (λ i l. table_at blank_job jobs (most_jobs - length jobs) i)

tests-take : (n : ℕ) (jobs : List Job) → job_tests n (take n jobs) ≡ job_tests n jobs
tests-take n jobs = tests_same n (take n jobs) jobs (λ i l. get_or-take n jobs i blank_job l)

-- A table is accepted exactly if its first n jobs are an accepted list.
module _ (n : ℕ) (jobs : List Job) (h : n ≤ length jobs) where
  tests-list : table_tests (length (take n jobs)) (take n jobs) ≡ table_tests n jobs
  tests-list = ap (λ (k : ℕ). table_tests k (take n jobs)) (length-take-le n jobs h) ∙ ap (λ (tests : Tests). count_tests n ++ tests) (tests-take n jobs)

  pub accepted-take : Accepts (table_tests n jobs) → AcceptedJobs (take n jobs)
  accepted-take ok = subst (λ (tests : Tests). Accepts tests) (sym tests-list) ok

  pub accepted-table : AcceptedJobs (take n jobs) → Accepts (table_tests n jobs)
  accepted-table ok = subst (λ (tests : Tests). Accepts tests) tests-list ok

-- ---- refusal 5

-- Of a deadline up to the period it lets by what 01 alone lets by: 1 ≤ C ≤ D ≤ T ≤ 60,000.
pub times-within : (cost period deadline : ℕ) → deadline ≤ period
    → times_ok cost period deadline ≡ (leb 1 cost && leb cost deadline && leb deadline period && leb period longest_period)
unfolding times_ok
times-within cost period deadline h = elim (dec_le cost deadline) [
  | no c ↦ simp (lt-leb cost deadline (omega arith), and-false)
  | yes c ↦
      let within : leb cost period ≡ true = le-leb cost period (omega arith) in
      elim (dec_le period longest_period) [
        | no t ↦ simp (lt-leb period longest_period (omega arith), and-false)
        | yes t ↦ simp (le-leb deadline period h, within, le-leb period longest_period t, le-leb deadline longest_deadline (omega arith), and-true)
      ]
]
