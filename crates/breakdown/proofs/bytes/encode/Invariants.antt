use Prim.Native.Nat.{◌*◌}
use mathlib.Core.Path.{◌≡◌}
use mathlib.Core.List.{◌++◌}
use lib.ListN.{length, drop, take}
use Rattle.records.specs.Records.{flat}
use Rattle.breakdown.specs.Breakdowns.{parts_size, parts_bytes}
use Rattle.breakdown.proofs.bytes.encode.Given as goal

abbrev pub invariant-loop-i : goal.invariant-loop-i
invariant-loop-i l = (length l.output ≡ length l.initial.output) × (l.output ≡ flat parts_bytes (take l.i l.fn.table) ++ drop (parts_size * l.i) l.initial.output)
