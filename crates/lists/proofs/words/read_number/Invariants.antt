use Prim.Native.Nat.{◌+◌, ◌≤◌}
use mathlib.Core.Path.{◌≡◌}
use lib.ListN.{drop}
use Rattle.lists.proofs.Parsing.{number_from}
use Rattle.lists.proofs.words.read_number.Given as goal

abbrev pub invariant-loop-byte : goal.invariant-loop-byte
invariant-loop-byte l = (l.value ≤ l.limit + 1) × (number_from l.place l.told l.limit l.value (drop l.byte-index l.word) ≡ number_from l.place l.told l.limit 0 l.word)
