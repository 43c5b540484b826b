use mathlib.Core.Path.{sym, ◌∙◌}
use borrow.Author.Tests.{not-true, not-false}
use Rattle.kernel.proofs.judge.judge_kernels.Goals as goal

pub returns-then-not-all_ok : goal.returns-then-not-all_ok
returns-then-not-all_ok c = simp (sym c.all_ok.ensures ∙ not-true _ c.if-not-all_ok.true-raw)

pub returns-then-not-all_ok-2 : goal.returns-then-not-all_ok-2
returns-then-not-all_ok-2 c =
    simp (
      sym c.all_ok.ensures ∙ not-false _ c.if-not-all_ok.false-raw,
      sym c.all_ok-2.ensures ∙ not-true _ c.if-not-all_ok-2.true-raw,
    )

pub returns-then-not-all_ok-3 : goal.returns-then-not-all_ok-3
returns-then-not-all_ok-3 c =
    simp (
      sym c.all_ok.ensures ∙ not-false _ c.if-not-all_ok.false-raw,
      sym c.all_ok-2.ensures ∙ not-false _ c.if-not-all_ok-2.false-raw,
      sym c.all_ok-3.ensures ∙ not-true _ c.if-not-all_ok-3.true-raw,
    )

pub returns-then-not-all_ok-4 : goal.returns-then-not-all_ok-4
returns-then-not-all_ok-4 c =
    simp (
      sym c.all_ok.ensures ∙ not-false _ c.if-not-all_ok.false-raw,
      sym c.all_ok-2.ensures ∙ not-false _ c.if-not-all_ok-2.false-raw,
      sym c.all_ok-3.ensures ∙ not-false _ c.if-not-all_ok-3.false-raw,
      sym c.all_ok-4.ensures ∙ not-true _ c.if-not-all_ok-4.true-raw,
    )

pub returns : goal.returns
returns c =
    simp (
      sym c.all_ok.ensures ∙ not-false _ c.if-not-all_ok.false-raw,
      sym c.all_ok-2.ensures ∙ not-false _ c.if-not-all_ok-2.false-raw,
      sym c.all_ok-3.ensures ∙ not-false _ c.if-not-all_ok-3.false-raw,
      sym c.all_ok-4.ensures ∙ not-false _ c.if-not-all_ok-4.false-raw,
    )
