use mathlib.Core.Path.{◌≡◌}
use mathlib.Core.List.{map, ◌++◌}
use lib.ListN.{take, drop}
use Rattle.command.specs.Words.{shown_byte}
use Rattle.command.proofs.show.Given as goal

-- What is passed is shown, and the rest is as it was.
abbrev pub invariant-loop-byte : goal.invariant-loop-byte
invariant-loop-byte l = l.name ≡ map shown_byte (take l.byte-index l.initial.name) ++ drop l.byte-index l.initial.name
