use mathlib.Core.Path.{sym, ap, ◌∙◌}
use Rattle.records.specs.Jobs.{job_ok}
use Rattle.records.specs.declared.judge.JobRule.{JobRule}
use Rattle.records.proofs.judge.job_ok.Goals as goal

pub returns-in-Id : goal.returns-in-Id
returns-in-Id c = sym (ap (λ (r : JobRule). job_ok r c.args.before c.args.job) c.in-Id.is)

pub returns-in-Order : goal.returns-in-Order
returns-in-Order c = sym (ap (λ (r : JobRule). job_ok r c.args.before c.args.job) c.in-Order.is)

pub returns-in-Times : goal.returns-in-Times
returns-in-Times c = c.times_ok.ensures ∙ sym (ap (λ (r : JobRule). job_ok r c.args.before c.args.job) c.in-Times.is)
