use mathlib.Core.Path.{◌≡◌}
use lib.ListN.{drop}
use Rattle.sets.specs.Order.{next_from}
use Rattle.sets.proofs.order.next_subset.Given as goal

-- What is found from p on is what is found from the start on.
abbrev pub invariant-loop-p : goal.invariant-loop-p
invariant-loop-p l = next_from l.left l.place (drop l.place l.sequence) ≡ next_from l.left l.p (drop l.p l.sequence)
