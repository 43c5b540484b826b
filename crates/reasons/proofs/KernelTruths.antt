-- What is said of a refusal is true: of the priorities, the size of a kernel block and the kernel record. Assumes nothing.
use Prim.Native.Nat.{ℕ, ◌+◌, ◌*◌, min, ◌≤◌, ◌<◌}
use mathlib.Core.Path.{◌≡◌, refl, sym, ◌∙◌}
use mathlib.Core.Bool.{Bool, true, false, false≢true}
use mathlib.Core.List.{List}
use mathlib.Core.Logic.{◌⊎◌, inl, inr, ◌≢◌}
use native.Mathlib.Decide.{dec_le}
use native.Mathlib.Omega.{arith}
use lib.Dec.{ltb, eqb}
use borrow.Author.Tests.{ltb-true, ltb-false, eqb-true, eqb-false, lt-ltb, le-leb, eq-eqb, ne_eqb}
use Rattle.sets.specs.Places.{every, failing}
use Rattle.sets.proofs.Places.{failing-fails}
use Rattle.records.specs.Limits.{most_jobs}
use Rattle.records.specs.Refusals.{Accepts}
use Rattle.records.specs.Jobs.{job_at}
use Rattle.records.specs.declared.job.Job.{Job}
use Rattle.configuration.specs.Settings.{not_placed, fifo, round_robin}
use Rattle.configuration.specs.Configuration.{scheduled}
use Rattle.kernel.specs.Priorities.{spanned, priority_tests}
use Rattle.kernel.specs.KernelRecords.{kernel_size, kernel_at, priority_at}
use Rattle.kernel.specs.KernelConfiguration.{is_top, on_top, sharing_priority, prioritised, kernel_ok}
use Rattle.kernel.specs.declared.priority.KernelPriority.{KernelPriority}
use Rattle.kernel.specs.declared.record.KernelRecord.{KernelRecord}
use Rattle.kernel.specs.declared.judge.KernelRule.{KernelRule}
use Rattle.kernel.specs.declared.judge.KernelRule.TheVariants.{Id, Top, Shape, Sharing}
use Rattle.kernel.proofs.Tops.{top-unplaced, top_placed, top_of, of-top}
use Rattle.reasons.specs.declared.reason.Sentence.TheVariants.{KernelBytes}
use Rattle.reasons.specs.Reasons.{count_reason, span_reason, lowest_top, kernel_shape_reason, kernel_sharing_reason, kernel_record_reason_at, kernel_record_reason}
use Rattle.reasons.specs.Claims.{TrueOfCount, TrueOfPriorities, TrueOfKernel}
use Rattle.reasons.proofs.Truths.{count-true, quantum-true, who-shares}

-- ---- refusals 13 and 7

pub priorities-true : (n : ℕ) (lowest highest : KernelPriority) → (Accepts (priority_tests n lowest highest) → ⊥) → TrueOfPriorities n lowest highest (span_reason n lowest highest)
unfolding span_reason
priorities-true n lowest highest bad = by (ltb highest.0 lowest.0) refl
  where
    by : (a : Bool) → ltb highest.0 lowest.0 ≡ a → TrueOfPriorities n lowest highest (span_reason n lowest highest)
    by true e = rw e (inl (refl, ltb-true highest.0 lowest.0 e))
    by false e = rw e (inr (refl, some, few))
      where
        some : lowest.0 ≤ highest.0
        some = ltb-false highest.0 lowest.0 e

        few : spanned lowest highest < n
        few = elim (dec_le n (spanned lowest highest)) [
          | yes l ↦ absurd (bad (le-leb lowest.0 highest.0 some, (le-leb n (spanned lowest highest) l, tt)))
          | no l ↦ omega arith
        ]

pub kernel-count-true : (size n : ℕ) → (size ≡ kernel_size * n → ⊥) → TrueOfCount KernelBytes size n (count_reason KernelBytes size n)
kernel-count-true size n bad = count-true KernelBytes size n bad

-- ---- refusals 8, 14, 9 and 10

-- The top n values are those from the lowest that 14 tells to the highest: each of them is, and the priority of a record that 14 refuses
-- is not.
pub top-told : (n : ℕ) (highest priority : KernelPriority) → is_top n highest priority ≡ true → (lowest_top n highest ≤ priority.0) × (priority.0 ≤ highest.0)
unfolding lowest_top
top-told n highest priority e = let w = top_of n highest priority e in (omega (arith, w.1), w.0)

module _ (n : ℕ) (highest : KernelPriority) (kernel : KernelRecord) (bad : on_top n highest kernel ≡ false) where
  placed : kernel.policy ≢ not_placed
  placed e = false≢true (sym bad ∙ top-unplaced n highest kernel e)

  outside : (kernel.priority.0 < lowest_top n highest) ⊎ (highest.0 < kernel.priority.0)
  unfolding lowest_top
  outside = elim (dec_le kernel.priority.0 highest.0) [
    | no above ↦ inr (omega (arith, above))
    | yes within ↦ elim (dec_le (kernel.priority.0 + n) highest.0) [
      | yes below ↦ inl (omega (arith, below))
      | no top ↦ absurd (false≢true (sym bad ∙ top_placed n highest kernel placed ∙ of-top n highest kernel.priority within (omega (arith, top))))
    ]
  ]

module _ (at n low high : ℕ) (highest : KernelPriority) (job : Job) (kernel : KernelRecord) where
  abbrev policy : ℕ
  policy = kernel.policy

  abbrev priority : ℕ
  priority = kernel.priority.0

  kernel-shape-true : (sharing : ℕ) → scheduled low high policy kernel.quantum ≡ false → TrueOfKernel at n low high highest sharing job kernel (kernel_shape_reason at low high kernel)
  unfolding kernel_shape_reason
  kernel-shape-true sharing bad = by (eqb policy not_placed) (ltb round_robin policy) refl refl
    where
      by : (a b : Bool) → eqb policy not_placed ≡ a → ltb round_robin policy ≡ b → TrueOfKernel at n low high highest sharing job kernel (kernel_shape_reason at low high kernel)
      by true b ea eb = let none : policy ≡ not_placed = eqb-true policy not_placed ea in rw ea (inr (inr (inl (refl, (λ e. omega (arith, none, e)), (λ e. omega (arith, none, e))))))
      by false true ea eb = let large : round_robin < policy = ltb-true round_robin policy eb in rw (ea, eb) (inr (inr (inl (refl, (λ e. omega (arith, large, e)), (λ e. omega (arith, large, e))))))
      by false false ea eb = rw (ea, eb) (inr (inr (inr (inl (quantum-true at low high policy kernel.quantum bad ea eb)))))

  kernel-sharing-true : (kernels : List KernelRecord) → prioritised n kernels kernel ≡ false → TrueOfKernel at n low high highest (sharing_priority n kernels priority) job kernel (kernel_sharing_reason at kernel)
  unfolding kernel_sharing_reason
  kernel-sharing-true kernels bad = elim (who-shares policy (sharing_priority n kernels priority) bad) [
    | inl w ↦ rw (eq-eqb policy fifo w.0) (inr (inr (inr (inr (inl (refl, w.0, w.1))))))
    | inr w ↦ rw (ne_eqb policy fifo (λ f. omega (arith, w.0, f))) (inr (inr (inr (inr (inr (refl, w.0, w.1))))))
  ]

-- Of the first kernel record of which the rule does not hold, wherever it does not hold of all.
pub kernels-true : (rule : KernelRule) (jobs : List Job) (kernels : List KernelRecord) (n low high : ℕ) (highest : KernelPriority) → let count = min n most_jobs in
    every (kernel_ok rule count jobs low high highest kernels) count ≡ false → let at = failing (kernel_ok rule count jobs low high highest kernels) count in
    TrueOfKernel at count low high highest (sharing_priority count kernels (priority_at kernels at)) (job_at jobs at) (kernel_at kernels at) (kernel_record_reason rule jobs kernels n low high highest)
unfolding kernel_record_reason
kernels-true rule jobs kernels n low high highest bad =
    let count = min n most_jobs in
    let fails = failing-fails (kernel_ok rule count jobs low high highest kernels) count bad in
    let at = failing (kernel_ok rule count jobs low high highest kernels) count in
    let inside : at < most_jobs = omega (arith, fails.0) in
    rw (lt-ltb at most_jobs inside) (of rule at fails.1)
  where
    of : (rule : KernelRule) (at : ℕ) → let count = min n most_jobs in kernel_ok rule count jobs low high highest kernels at ≡ false
        → TrueOfKernel at count low high highest (sharing_priority count kernels (priority_at kernels at)) (job_at jobs at) (kernel_at kernels at) (kernel_record_reason_at rule at count low high highest (job_at jobs at) (kernel_at kernels at))
    of Id at e = inl (refl, eqb-false (kernel_at kernels at).id (job_at jobs at).id e)
    of Top at e = inr (inl (refl, outside (min n most_jobs) highest (kernel_at kernels at) e))
    of Shape at e = kernel-shape-true at (min n most_jobs) low high highest (job_at jobs at) (kernel_at kernels at) (sharing_priority (min n most_jobs) kernels (priority_at kernels at)) e
    of Sharing at e = kernel-sharing-true at (min n most_jobs) low high highest (job_at jobs at) (kernel_at kernels at) kernels e
