use mathlib.Core.Path.{sym, ◌∙◌}
use native.Mathlib.Omega.{arith}
use borrow.Author.Tests.{lt-leb, le-leb}
use Rattle.kernel.proofs.Tops.{top-unplaced, top_placed}
use Rattle.kernel.proofs.judge.is_on_top.Goals as goal

pub returns-then-kernel-eq-NOT_PLACED : goal.returns-then-kernel-eq-NOT_PLACED
returns-then-kernel-eq-NOT_PLACED c = sym (top-unplaced _ _ _ (omega (arith, c.if-kernel-eq-NOT_PLACED.true)))

pub returns-then-highest-priority : goal.returns-then-highest-priority
returns-then-highest-priority c = sym (top_placed _ _ _ (λ z. omega (arith, z, c.if-kernel-eq-NOT_PLACED.false)) ∙ simp (lt-leb _ _ c.if-highest-priority.true))

pub returns : goal.returns
returns c =
    sym (top_placed _ _ _ (λ z. omega (arith, z, c.if-kernel-eq-NOT_PLACED.false)) ∙ simp (le-leb _ _ c.if-highest-priority.false))
