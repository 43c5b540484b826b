use Prim.Native.Nat.{ℕ}
use mathlib.Core.Path.{sym, ap, ap₂, ◌∙◌}
use mathlib.Core.Bool.{Bool, cond}
use lib.Dec.{ltb}
use borrow.Author.Tests.{lt-ltb, le-ltb}
use Rattle.records.specs.Limits.{most_jobs}
use Rattle.records.specs.Jobs.{job_at}
use Rattle.configuration.specs.Settings.{setting_at}
use Rattle.reasons.specs.Reasons.{unknown, setting_reason_at, setting_reason}
use Rattle.reasons.proofs.hand_in.setting_reason.Goals as goal

pub returns-then-at-lt-MOST : goal.returns-then-at-lt-MOST
unfolding setting_reason
returns-then-at-lt-MOST c =
    let a = c.args in
    c.setting_reason_at.ensures
    ∙ sym (ap (λ (b : Bool). cond b (setting_reason_at a.rule c.first_faulty-at.result c.at_most-count.result a.call.range.low a.call.range.high (job_at a.call.jobs.table c.first_faulty-at.result) (setting_at a.settings c.first_faulty-at.result)) unknown) (lt-ltb _ _ c.if-at-lt-MOST.true))
    ∙ ap₂ (λ (k n : ℕ). cond (ltb k most_jobs) (setting_reason_at a.rule k n a.call.range.low a.call.range.high (job_at a.call.jobs.table k) (setting_at a.settings k)) unknown) c.first_faulty-at.ensures c.at_most-count.ensures

pub returns : goal.returns
unfolding setting_reason
returns c =
    let a = c.args in
    c.unknown.ensures
    ∙ sym (ap (λ (b : Bool). cond b (setting_reason_at a.rule c.first_faulty-at.result c.at_most-count.result a.call.range.low a.call.range.high (job_at a.call.jobs.table c.first_faulty-at.result) (setting_at a.settings c.first_faulty-at.result)) unknown) (le-ltb _ _ c.if-at-lt-MOST.false))
    ∙ ap₂ (λ (k n : ℕ). cond (ltb k most_jobs) (setting_reason_at a.rule k n a.call.range.low a.call.range.high (job_at a.call.jobs.table k) (setting_at a.settings k)) unknown) c.first_faulty-at.ensures c.at_most-count.ensures
