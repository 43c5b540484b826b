use mathlib.Core.Path.{refl}
use Rattle.configuration.specs.Settings.{setting_bytes}
use Rattle.configuration.proofs.setting.SettingToRecordSettingSIZE.to_bytes.Goals as goal

pub returns : goal.returns
unfolding setting_bytes
returns c = refl
