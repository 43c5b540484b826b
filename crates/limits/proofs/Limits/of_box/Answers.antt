use mathlib.Core.Path.{sym, ap}
use Rattle.limits.specs.Boxes.{box_limits}
use Rattle.limits.proofs.Limits.of_box.Goals as goal

pub returns-then-gate : goal.returns-then-gate
returns-then-gate c = sym (ap box_limits c.if-gate.true)

pub returns-else-gate : goal.returns-else-gate
returns-else-gate c = sym (ap box_limits c.if-gate.false)
