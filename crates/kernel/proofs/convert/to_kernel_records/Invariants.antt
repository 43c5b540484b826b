use mathlib.Core.Path.{◌≡◌}
use mathlib.Core.List.{map}
use lib.ListN.{take}
use Rattle.kernel.specs.KernelRecords.{to_kernel_record, kernel_table}
use Rattle.kernel.proofs.convert.to_kernel_records.Given as goal

abbrev pub invariant-loop-i : goal.invariant-loop-i
invariant-loop-i l = l.kernels ≡ kernel_table (map (to_kernel_record l.highest) (take l.i l.settings))
