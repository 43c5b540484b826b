-- What is said of a refusal is true: of the job, the range, the setting and the sizes; KernelTruths has the priorities and the kernel
-- records. Assumes nothing.
use Prim.Native.Nat.{ℕ, ◌*◌, ◌/◌, ◌%◌, min, ◌≤◌, ◌<◌}
use mathlib.Core.Path.{◌≡◌, refl, sym, ◌∙◌}
use mathlib.Core.Bool.{Bool, true, false, false≢true}
use mathlib.Core.List.{List}
use mathlib.Core.Logic.{◌⊎◌, inl, inr}
use native.Mathlib.Decide.{dec_le}
use native.Mathlib.Omega.{arith}
use lib.Dec.{ltb, eqb}
use borrow.Author.Tests.{ltb-true, ltb-false, leb-false, eqb-true, eqb-false, lt-ltb, le-leb, eq-eqb, ne_eqb}
use Rattle.sets.specs.Places.{every, failing}
use Rattle.sets.proofs.Places.{failing-fails}
use Rattle.records.specs.Limits.{longest_period, longest_deadline, longest_quantum, most_jobs}
use Rattle.records.specs.Refusals.{Accepts}
use Rattle.records.specs.Jobs.{job_size, size_tests, job_at, id_before, times_ok, job_ok_at}
use Rattle.records.specs.Ranges.{range_tests}
use Rattle.records.specs.declared.job.Job.{Job}
use Rattle.records.specs.declared.judge.JobRule.{JobRule}
use Rattle.records.specs.declared.judge.JobRule.TheVariants.{Id, Order, Times}
use Rattle.configuration.specs.Settings.{not_placed, fifo, round_robin, setting_size, setting_at}
use Rattle.configuration.specs.Configuration.{placed_level, scheduled, shaped, sharing, may_share, levelled, setting_ok}
use Rattle.configuration.specs.declared.setting.Setting.{Setting}
use Rattle.configuration.specs.declared.judge.SettingRule.{SettingRule}
use Rattle.configuration.specs.declared.judge.SettingRule.TheVariants.{Id as SettingId, Shape, Sharing, Placed}
use Rattle.reasons.specs.declared.reason.Sentence.{Sentence}
use Rattle.reasons.specs.Reasons.{times_reason, job_reason_at, job_reason, size_reason, range_reason, count_reason, quantum_reason, shape_reason, sharing_reason, setting_reason_at, setting_reason}
use Rattle.reasons.specs.Claims.{TrueOfTimes, TrueOfJob, TrueOfRange, TrueOfSize, TrueOfCount, TrueOfQuantum, TrueOfShape, TrueOfSetting}

-- ---- refusals 2, 3 and 5

times-true : (at : ℕ) (job : Job) → times_ok job.cost job.period job.deadline ≡ false → TrueOfTimes at job (times_reason at job)
unfolding times_ok times_reason
times-true at job bad = by (eqb job.cost 0) (ltb job.deadline job.cost) (ltb job.period job.cost) (ltb longest_period job.period) refl refl refl refl
  where
    by : (a b c d : Bool) → eqb job.cost 0 ≡ a → ltb job.deadline job.cost ≡ b → ltb job.period job.cost ≡ c → ltb longest_period job.period ≡ d → TrueOfTimes at job (times_reason at job)
    by true b c d ea eb ec ed = rw ea (inl (refl, eqb-true job.cost 0 ea))
    by false true c d ea eb ec ed = rw (ea, eb) (inr (inl (refl, ltb-true job.deadline job.cost eb)))
    by false false true d ea eb ec ed = rw (ea, eb, ec) (inr (inr (inl (refl, ltb-true job.period job.cost ec))))
    by false false false true ea eb ec ed = rw (ea, eb, ec, ed) (inr (inr (inr (inl (refl, ltb-true longest_period job.period ed)))))
    by false false false false ea eb ec ed = rw (ea, eb, ec, ed) (inr (inr (inr (inr (refl, long)))))
      where
        long : longest_deadline < job.deadline
        long = elim (dec_le job.deadline longest_deadline) [
          | yes l ↦
              let some : 1 ≤ job.cost = omega (arith, eqb-false job.cost 0 ea) in
              absurd (false≢true (sym bad ∙ simp (le-leb 1 job.cost some, le-leb job.cost job.deadline (ltb-false job.deadline job.cost eb), le-leb job.cost job.period (ltb-false job.period job.cost ec), le-leb job.period longest_period (ltb-false longest_period job.period ed), le-leb job.deadline longest_deadline l)))
          | no l ↦ omega arith
        ]

-- Of the first job of which the rule does not hold, wherever it does not hold of all.
pub jobs-true : (rule : JobRule) (jobs : List Job) (n : ℕ) → every (job_ok_at rule jobs) (min n most_jobs) ≡ false → let at = failing (job_ok_at rule jobs) (min n most_jobs) in
    TrueOfJob at (id_before jobs at) (job_at jobs at) (job_reason rule jobs n)
unfolding job_reason
jobs-true rule jobs n bad =
    let fails = failing-fails (job_ok_at rule jobs) (min n most_jobs) bad in
    let at = failing (job_ok_at rule jobs) (min n most_jobs) in
    let inside : at < most_jobs = omega (arith, fails.0) in
    rw (lt-ltb at most_jobs inside) (of rule at fails.1)
  where
    of : (rule : JobRule) (at : ℕ) → job_ok_at rule jobs at ≡ false → TrueOfJob at (id_before jobs at) (job_at jobs at) (job_reason_at rule at (id_before jobs at) (job_at jobs at))
    of Id at e = inl (refl, omega (arith, leb-false 1 (job_at jobs at).id e))
    of Order at e = inr (inl (refl, ltb-false (id_before jobs at) (job_at jobs at).id e))
    of Times at e = inr (inr (times-true at (job_at jobs at) e))

-- ---- refusals 6, 1 and 7

pub range-true : (low high : ℕ) → (Accepts (range_tests low high) → ⊥) → TrueOfRange low high (range_reason low high)
unfolding range_reason
range-true low high bad = by (eqb low 0) (ltb high low) refl refl
  where
    by : (a b : Bool) → eqb low 0 ≡ a → ltb high low ≡ b → TrueOfRange low high (range_reason low high)
    by true b ea eb = rw ea (inl (refl, eqb-true low 0 ea))
    by false true ea eb = rw (ea, eb) (inr (inl (refl, ltb-true high low eb)))
    by false false ea eb = rw (ea, eb) (inr (inr (refl, long)))
      where
        long : longest_quantum < high
        long = elim (dec_le high longest_quantum) [
          | yes l ↦ absurd (bad (le-leb 1 low (omega (arith, eqb-false low 0 ea)), (le-leb low high (ltb-false high low eb), (le-leb high longest_quantum l, tt))))
          | no l ↦ omega arith
        ]

pub size-true : (size : ℕ) → (Accepts (size_tests size) → ⊥) → TrueOfSize size (size_reason size)
unfolding size_reason
size-true size bad = by (eqb size 0) (eqb (size % job_size) 0) refl refl
  where
    by : (a b : Bool) → eqb size 0 ≡ a → eqb (size % job_size) 0 ≡ b → TrueOfSize size (size_reason size)
    by true b ea eb = rw ea (inl (refl, eqb-true size 0 ea))
    by false true ea eb = rw (ea, eb) (inr (inl (refl, eqb-true (size % job_size) 0 eb, many)))
      where
        many : most_jobs < size / job_size
        many = elim (dec_le size 64) [
          | yes l ↦ absurd (bad (le-leb 1 size (omega (arith, eqb-false size 0 ea)), (le-leb size 64 l, (eb, tt))))
          | no l ↦ omega (arith, eqb-true (size % job_size) 0 eb)
        ]
    by false false ea eb = rw (ea, eb) (inr (inr (refl, eqb-false (size % job_size) 0 eb)))

pub count-true : (bytes : Sentence) (size n : ℕ) → (size ≡ setting_size * n → ⊥) → TrueOfCount bytes size n (count_reason bytes size n)
unfolding count_reason
count-true bytes size n bad = by (eqb (size % setting_size) 0) refl
  where
    by : (a : Bool) → eqb (size % setting_size) 0 ≡ a → TrueOfCount bytes size n (count_reason bytes size n)
    by true e = rw e (inl (refl, eqb-true (size % setting_size) 0 e, λ f. bad (omega (arith, eqb-true (size % setting_size) 0 e, f))))
    by false e = rw e (inr (refl, eqb-false (size % setting_size) 0 e))

-- ---- refusals 8 to 11

-- Of the quantum of a placed job, whether a setting or a kernel record has it.
module _ (at low high policy quantum : ℕ) (bad : scheduled low high policy quantum ≡ false) where
  fifo-quantum : policy ≡ fifo → quantum ≡ 0 → ⊥
  unfolding scheduled
  fifo-quantum e f = false≢true (sym bad ∙ rw (eq-eqb policy fifo e, eq-eqb quantum 0 f) refl)

  quantum-outside : policy ≡ round_robin → (quantum < low) ⊎ (high < quantum)
  unfolding scheduled
  quantum-outside e = by (ltb quantum low) (ltb high quantum) refl refl
    where
      by : (a b : Bool) → ltb quantum low ≡ a → ltb high quantum ≡ b → (quantum < low) ⊎ (high < quantum)
      by true b ea eb = inl (ltb-true quantum low ea)
      by false true ea eb = inr (ltb-true high quantum eb)
      by false false ea eb =
          absurd (false≢true (sym bad ∙ rw (ne_eqb policy fifo (λ f. omega (arith, e, f)), eq-eqb policy round_robin e, le-leb low quantum (ltb-false quantum low ea), le-leb quantum high (ltb-false high quantum eb)) refl))

  pub quantum-true : eqb policy not_placed ≡ false → ltb round_robin policy ≡ false → TrueOfQuantum at low high policy quantum (quantum_reason at low high policy quantum)
  unfolding quantum_reason
  quantum-true placed known = by (eqb policy fifo) refl
    where
      by : (a : Bool) → eqb policy fifo ≡ a → TrueOfQuantum at low high policy quantum (quantum_reason at low high policy quantum)
      by true e = rw e (inl (refl, eqb-true policy fifo e, fifo-quantum (eqb-true policy fifo e)))
      by false e =
          let two : policy ≡ round_robin = omega (arith, eqb-false policy not_placed placed, ltb-false round_robin policy known, eqb-false policy fifo e) in
          rw e (inr (refl, two, quantum-outside two))

module _ (at n low high : ℕ) (setting : Setting) (bad : shaped n low high setting ≡ false) where
  abbrev policy : ℕ
  policy = setting.policy

  abbrev level : ℕ
  level = setting.level

  abbrev quantum : ℕ
  quantum = setting.quantum

  none-numbers : eqb policy not_placed ≡ true → (level ≡ 0 → ⊥) ⊎ (quantum ≡ 0 → ⊥)
  unfolding shaped scheduled
  none-numbers e = by (eqb level 0) (eqb quantum 0) refl refl
    where
      by : (a b : Bool) → eqb level 0 ≡ a → eqb quantum 0 ≡ b → (level ≡ 0 → ⊥) ⊎ (quantum ≡ 0 → ⊥)
      by true true ea eb = absurd (false≢true (sym bad ∙ rw (e, ea, eb) refl))
      by true false ea eb = inr (eqb-false quantum 0 eb)
      by false b ea eb = inl (eqb-false level 0 ea)

  -- Where the policy and the level are in order, the quantum is at fault.
  not-scheduled : eqb policy not_placed ≡ false → placed_level n level ≡ true → scheduled low high policy quantum ≡ false
  unfolding shaped
  not-scheduled placed on =
      let same : shaped n low high setting ≡ scheduled low high policy quantum = rw (placed, on) refl in
      sym same ∙ bad

  shape-true : TrueOfShape at n low high setting (shape_reason at n low high setting)
  unfolding shape_reason placed_level
  shape-true = by (eqb policy not_placed) (ltb round_robin policy) (eqb level 0) (ltb n level) refl refl refl refl
    where
      on : eqb level 0 ≡ false → ltb n level ≡ false → placed_level n level ≡ true
      on ec ed = simp (le-leb 1 level (omega (arith, eqb-false level 0 ec)), le-leb level n (ltb-false n level ed))

      by : (a b c d : Bool) → eqb policy not_placed ≡ a → ltb round_robin policy ≡ b → eqb level 0 ≡ c → ltb n level ≡ d → TrueOfShape at n low high setting (shape_reason at n low high setting)
      by true b c d ea eb ec ed = rw ea (inl (refl, eqb-true policy not_placed ea, none-numbers ea))
      by false true c d ea eb ec ed = rw (ea, eb) (inr (inl (refl, ltb-true round_robin policy eb)))
      by false false true d ea eb ec ed = rw (ea, eb, ec) (inr (inr (inl (refl, inl (eqb-true level 0 ec)))))
      by false false false true ea eb ec ed = rw (ea, eb, ec, ed) (inr (inr (inl (refl, inr (ltb-true n level ed)))))
      by false false false false ea eb ec ed = rw (ea, eb, ec, ed) (inr (inr (inr (quantum-true at low high policy quantum (not-scheduled ea (on ec ed)) ea eb))))

-- Who may not stand with so many jobs: with policy 1 not alone, or with policy 2 alone.
pub who-shares : (policy jobs : ℕ) → may_share policy jobs ≡ false → ((policy ≡ fifo) × (jobs ≡ 1 → ⊥)) ⊎ ((policy ≡ round_robin) × (jobs < 2))
unfolding may_share
who-shares policy jobs bad = by (eqb policy fifo) (eqb policy round_robin) refl refl
  where
    by : (a b : Bool) → eqb policy fifo ≡ a → eqb policy round_robin ≡ b → ((policy ≡ fifo) × (jobs ≡ 1 → ⊥)) ⊎ ((policy ≡ round_robin) × (jobs < 2))
    by true true ea eb = absurd (let x = eqb-true policy fifo ea in let y = eqb-true policy round_robin eb in omega (arith, x, y))
    by true false ea eb = inl (eqb-true policy fifo ea, λ f. false≢true (sym bad ∙ rw (ea, eb, eq-eqb jobs 1 f) refl))
    by false true ea eb = inr (eqb-true policy round_robin eb, few)
      where
        few : jobs < 2
        few = elim (dec_le 2 jobs) [
          | yes l ↦ absurd (false≢true (sym bad ∙ rw (ea, eb, le-leb 2 jobs l) refl))
          | no l ↦ omega arith
        ]
    by false false ea eb = absurd (false≢true (sym bad ∙ rw (ea, eb) refl))

sharing-true : (at n low high : ℕ) (settings : List Setting) (job : Job) (setting : Setting) → levelled n settings setting ≡ false
    → TrueOfSetting at n low high (sharing n settings setting.level) job setting (sharing_reason at setting)
unfolding sharing_reason
sharing-true at n low high settings job setting bad = elim (who-shares setting.policy (sharing n settings setting.level) bad) [
  | inl w ↦ rw (eq-eqb setting.policy fifo w.0) (inr (inr (inl (refl, w.0, w.1))))
  | inr w ↦ rw (ne_eqb setting.policy fifo (λ f. omega (arith, w.0, f))) (inr (inr (inr (inl (refl, w.0, w.1)))))
]

-- Of the first setting of which the rule does not hold, wherever it does not hold of all.
pub settings-true : (rule : SettingRule) (jobs : List Job) (settings : List Setting) (n low high : ℕ) → let count = min n most_jobs in
    every (setting_ok rule count jobs low high settings) count ≡ false → let at = failing (setting_ok rule count jobs low high settings) count in
    TrueOfSetting at count low high (sharing count settings (setting_at settings at).level) (job_at jobs at) (setting_at settings at) (setting_reason rule jobs settings n low high)
unfolding setting_reason
settings-true rule jobs settings n low high bad =
    let count = min n most_jobs in
    let fails = failing-fails (setting_ok rule count jobs low high settings) count bad in
    let at = failing (setting_ok rule count jobs low high settings) count in
    let inside : at < most_jobs = omega (arith, fails.0) in
    rw (lt-ltb at most_jobs inside) (of rule at fails.1)
  where
    of : (rule : SettingRule) (at : ℕ) → let count = min n most_jobs in setting_ok rule count jobs low high settings at ≡ false
        → TrueOfSetting at count low high (sharing count settings (setting_at settings at).level) (job_at jobs at) (setting_at settings at) (setting_reason_at rule at count low high (job_at jobs at) (setting_at settings at))
    of SettingId at e = inl (refl, eqb-false (setting_at settings at).id (job_at jobs at).id e)
    of Shape at e = inr (inl (shape-true at (min n most_jobs) low high (setting_at settings at) e))
    of Sharing at e = sharing-true at (min n most_jobs) low high settings (job_at jobs at) (setting_at settings at) e
    of Placed at e = inr (inr (inr (inr (refl, omega (arith, ltb-false not_placed (setting_at settings at).policy e)))))
