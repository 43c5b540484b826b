use mathlib.Core.Path.{sym, ◌∙◌}
use borrow.Author.Tests.{lt-leb, le-leb}
use Rattle.configuration.proofs.Policies.{scheduled-fifo, scheduled-robin, scheduled-other}
use Rattle.configuration.proofs.judge.is_scheduled.Goals as goal

pub returns-then-policy-eq-FIFO : goal.returns-then-policy-eq-FIFO
returns-then-policy-eq-FIFO c = sym (scheduled-fifo _ _ _ _ c.if-policy-eq-FIFO.true)

pub returns-then-policy-ne-ROUND_ROBIN : goal.returns-then-policy-ne-ROUND_ROBIN
returns-then-policy-ne-ROUND_ROBIN c = sym (scheduled-other _ _ _ _ c.if-policy-eq-FIFO.false c.if-policy-ne-ROUND_ROBIN.true)

pub returns-then-quantum-range : goal.returns-then-quantum-range
returns-then-quantum-range c = sym (scheduled-robin _ _ _ _ c.if-policy-ne-ROUND_ROBIN.false ∙ simp (lt-leb _ _ c.if-quantum-range.true))

pub returns : goal.returns
returns c = sym (scheduled-robin _ _ _ _ c.if-policy-ne-ROUND_ROBIN.false ∙ simp (le-leb _ _ c.if-quantum-range.false))
