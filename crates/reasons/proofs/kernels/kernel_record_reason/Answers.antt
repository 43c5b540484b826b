use Prim.Native.Nat.{ℕ, ◌≤◌, ◌<◌}
use mathlib.Core.Path.{◌≡◌, sym, ap, ap₂, ◌∙◌}
use mathlib.Core.Bool.{Bool, cond}
use lib.Dec.{ltb}
use borrow.Author.Tests.{lt-ltb, le-ltb}
use Rattle.records.specs.Limits.{most_jobs}
use Rattle.records.specs.Jobs.{job_at}
use Rattle.kernel.specs.KernelRecords.{kernel_at}
use Rattle.reasons.specs.declared.reason.Reason.{Reason}
use Rattle.reasons.specs.Reasons.{unknown, kernel_record_reason_at, kernel_record_reason}
use Rattle.reasons.proofs.kernels.kernel_record_reason.Goals as goal
use Rattle.reasons.proofs.kernels.kernel_record_reason.Goals.{After-first_faulty-at}

module _ (c : After-first_faulty-at) where
  abbrev at : ℕ
  at = c.first_faulty-at.result

  abbrev count : ℕ
  count = c.at_most-count.result

  -- What is said of the record at a place, for so many jobs; and what is said wherever the place is.
  abbrev told : ℕ → ℕ → Reason
  told k n = let a = c.args in kernel_record_reason_at a.rule k n a.call.range.low a.call.range.high a.highest (job_at a.call.jobs.table k) (kernel_at a.kernels k)

  abbrev either : ℕ → ℕ → Reason
  either k n = cond (ltb k most_jobs) (told k n) unknown

  abbrev whole : Reason
  whole = let a = c.args in kernel_record_reason a.rule a.call.jobs.table a.kernels a.call.jobs.count a.call.range.low a.call.range.high a.highest

  found : either at count ≡ whole
  unfolding kernel_record_reason
  found = ap₂ either c.first_faulty-at.ensures c.at_most-count.ensures

  inside : at < most_jobs → told at count ≡ whole
  inside l = sym (ap (λ (b : Bool). cond b (told at count) unknown) (lt-ltb at most_jobs l)) ∙ found

  past : most_jobs ≤ at → unknown ≡ whole
  past l = sym (ap (λ (b : Bool). cond b (told at count) unknown) (le-ltb at most_jobs l)) ∙ found

pub returns-then-at-lt-MOST : goal.returns-then-at-lt-MOST
returns-then-at-lt-MOST c = c.kernel_record_reason_at.ensures ∙ inside (goal.at.returns-then-at-lt-MOST c).After-first_faulty-at c.if-at-lt-MOST.true

pub returns : goal.returns
returns c = c.unknown.ensures ∙ past (goal.at.returns c).After-first_faulty-at c.if-at-lt-MOST.false
