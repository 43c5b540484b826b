use Prim.Native.Nat.{ℕ}
use mathlib.Core.Path.{sym, ap, ◌∙◌}
use mathlib.Core.Bool.{Bool, cond}
use lib.Dec.{ltb}
use borrow.Author.Tests.{lt-ltb, le-ltb}
use Rattle.records.specs.Limits.{most_jobs}
use Rattle.records.specs.Jobs.{job_at, id_before}
use Rattle.reasons.specs.Reasons.{unknown, job_reason_at, job_reason}
use Rattle.reasons.proofs.list.job_reason.Goals as goal

pub returns-then-at-lt-MOST : goal.returns-then-at-lt-MOST
unfolding job_reason
returns-then-at-lt-MOST c =
    let a = c.args in
    c.job_reason_at.ensures
    ∙ ap (λ (x : ℕ). job_reason_at a.rule c.first_faulty-at.result x (job_at a.jobs c.first_faulty-at.result)) c.id_before.ensures
    ∙ sym (ap (λ (b : Bool). cond b (job_reason_at a.rule c.first_faulty-at.result (id_before a.jobs c.first_faulty-at.result) (job_at a.jobs c.first_faulty-at.result)) unknown) (lt-ltb _ _ c.if-at-lt-MOST.true))
    ∙ ap (λ (k : ℕ). cond (ltb k most_jobs) (job_reason_at a.rule k (id_before a.jobs k) (job_at a.jobs k)) unknown) c.first_faulty-at.ensures

pub returns : goal.returns
unfolding job_reason
returns c =
    let a = c.args in
    c.unknown.ensures
    ∙ sym (ap (λ (b : Bool). cond b (job_reason_at a.rule c.first_faulty-at.result (id_before a.jobs c.first_faulty-at.result) (job_at a.jobs c.first_faulty-at.result)) unknown) (le-ltb _ _ c.if-at-lt-MOST.false))
    ∙ ap (λ (k : ℕ). cond (ltb k most_jobs) (job_reason_at a.rule k (id_before a.jobs k) (job_at a.jobs k)) unknown) c.first_faulty-at.ensures
