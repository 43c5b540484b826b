use mathlib.Core.Path.{◌≡◌}
use mathlib.Core.List.{map}
use lib.ListN.{take}
use Rattle.configuration.specs.Settings.{setting_table}
use Rattle.kernel.specs.KernelRecords.{to_setting}
use Rattle.kernel.proofs.convert.to_settings.Given as goal

abbrev pub invariant-loop-i : goal.invariant-loop-i
invariant-loop-i l = l.settings ≡ setting_table (map (to_setting l.highest) (take l.i l.kernels))
