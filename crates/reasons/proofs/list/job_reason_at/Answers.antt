use mathlib.Core.Path.{sym, ap, ◌∙◌}
use Rattle.records.specs.declared.judge.JobRule.{JobRule}
use Rattle.reasons.specs.Reasons.{job_reason_at}
use Rattle.reasons.proofs.list.job_reason_at.Goals as goal

pub returns-in-Id : goal.returns-in-Id
returns-in-Id c = let a = c.args in c.reason_of.ensures ∙ sym (ap (λ (x : JobRule). job_reason_at x a.at a.before a.job) c.in-Id.is)

pub returns-in-Order : goal.returns-in-Order
returns-in-Order c = let a = c.args in c.reason_of-in-Order.ensures ∙ sym (ap (λ (x : JobRule). job_reason_at x a.at a.before a.job) c.in-Order.is)

pub returns-in-Times : goal.returns-in-Times
returns-in-Times c = let a = c.args in c.times_reason.ensures ∙ sym (ap (λ (x : JobRule). job_reason_at x a.at a.before a.job) c.in-Times.is)
