use mathlib.Core.Path.{◌≡◌, sym, ap, ◌∙◌}
use Rattle.configuration.specs.Configuration.{setting_ok}
use Rattle.configuration.specs.declared.judge.SettingRule.{SettingRule}
use Rattle.configuration.proofs.judge.setting_ok.Goals as goal
use Rattle.configuration.proofs.judge.setting_ok.Goals.{After-setting-1}

-- What the rule asks where it is known.
told : (c : After-setting-1) {rule : SettingRule} → let a = c.args in a.rule ≡ rule
    → setting_ok rule a.n a.jobs a.range.low a.range.high a.settings a.i ≡ setting_ok a.rule a.n a.jobs a.range.low a.range.high a.settings a.i
told c e = let a = c.args in sym (ap (λ (r : SettingRule). setting_ok r a.n a.jobs a.range.low a.range.high a.settings a.i) e)

pub returns-in-Id : goal.returns-in-Id
returns-in-Id c = told (goal.at.returns-in-Id c).After-setting-1 c.in-Id.is

pub returns-in-Shape : goal.returns-in-Shape
returns-in-Shape c = c.has_shape.ensures ∙ told (goal.at.returns-in-Shape c).After-setting-1 c.in-Shape.is

pub returns-in-Sharing : goal.returns-in-Sharing
returns-in-Sharing c = c.is_levelled.ensures ∙ told (goal.at.returns-in-Sharing c).After-setting-1 c.in-Sharing.is

pub returns-in-Placed : goal.returns-in-Placed
returns-in-Placed c = told (goal.at.returns-in-Placed c).After-setting-1 c.in-Placed.is
