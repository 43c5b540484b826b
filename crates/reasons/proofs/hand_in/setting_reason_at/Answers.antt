use mathlib.Core.Path.{sym, ap, ◌∙◌}
use Rattle.configuration.specs.declared.judge.SettingRule.{SettingRule}
use Rattle.reasons.specs.Reasons.{setting_reason_at}
use Rattle.reasons.proofs.hand_in.setting_reason_at.Goals as goal

pub returns-in-Id : goal.returns-in-Id
returns-in-Id c = let a = c.args in c.reason_of.ensures ∙ sym (ap (λ (x : SettingRule). setting_reason_at x a.at a.n a.range.low a.range.high a.job a.setting) c.in-Id.is)

pub returns-in-Shape : goal.returns-in-Shape
returns-in-Shape c = let a = c.args in c.shape_reason.ensures ∙ sym (ap (λ (x : SettingRule). setting_reason_at x a.at a.n a.range.low a.range.high a.job a.setting) c.in-Shape.is)

pub returns-in-Sharing : goal.returns-in-Sharing
returns-in-Sharing c = let a = c.args in c.sharing_reason.ensures ∙ sym (ap (λ (x : SettingRule). setting_reason_at x a.at a.n a.range.low a.range.high a.job a.setting) c.in-Sharing.is)

pub returns-in-Placed : goal.returns-in-Placed
returns-in-Placed c = let a = c.args in c.reason_of-in-Placed.ensures ∙ sym (ap (λ (x : SettingRule). setting_reason_at x a.at a.n a.range.low a.range.high a.job a.setting) c.in-Placed.is)
