use mathlib.Core.Path.{ap, ◌∙◌}
use Rattle.configuration.specs.Configuration.{may_share}
use Rattle.kernel.proofs.judge.is_prioritised.Goals as goal

pub returns : goal.returns
returns c = let a = c.args in c.may_share.ensures ∙ ap (may_share a.kernel.policy) c.on_priority-jobs.ensures
