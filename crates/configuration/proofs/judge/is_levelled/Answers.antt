use mathlib.Core.Path.{ap, ◌∙◌}
use Rattle.configuration.specs.Configuration.{may_share}
use Rattle.configuration.proofs.judge.is_levelled.Goals as goal

pub returns : goal.returns
returns c = let a = c.args in c.may_share.ensures ∙ ap (may_share a.setting.policy) c.on_level-jobs.ensures
