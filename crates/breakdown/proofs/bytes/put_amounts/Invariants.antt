use Prim.Native.Nat.{◌*◌}
use mathlib.Core.Path.{◌≡◌}
use mathlib.Core.List.{◌++◌}
use lib.ListN.{length, drop, take}
use Rattle.records.specs.Records.{long_bytes, flat}
use Rattle.breakdown.proofs.bytes.put_amounts.Given as goal

abbrev pub invariant-loop-i : goal.invariant-loop-i
invariant-loop-i l = (length l.output ≡ length l.initial.output) × (l.output ≡ flat long_bytes (take l.i l.fn.amounts) ++ drop (4 * l.i) l.initial.output)
