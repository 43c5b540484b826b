use native.Mathlib.Omega.{arith}
use Prim.Native.Nat.{ℕ}
use mathlib.Core.Path.{sym, ap, ◌∙◌}
use borrow.Author.Tests.{not-true, not-false}
use Rattle.sets.specs.Places.{failing}
use Rattle.sets.proofs.Places.{every-none, every-on, every-end, failing-stop, failing-none}
use Rattle.configuration.specs.Configuration.{setting_ok}
use Rattle.configuration.proofs.judge.first_faulty.Goals as goal
use Rattle.configuration.proofs.judge.first_faulty.Goals.{After-at_most-count}

pub loop-i-init : goal.loop-i-init
loop-i-init c = every-none _

-- The first fault for a count is the one for the count that was asked for.
abbrev fault : (c : After-at_most-count) → ℕ → ℕ
fault c k = let a = c.args in failing (setting_ok a.rule k a.call.jobs.table a.call.range.low a.call.range.high a.settings) k

pub returns-then-not-setting_ok : goal.returns-then-not-setting_ok
returns-then-not-setting_ok c =
    let l = c.loop-i in
    sym (failing-stop _ _ l.i c.loop-i-test.true l.invariant (sym c.setting_ok.ensures ∙ not-true _ c.if-not-setting_ok.true-raw)) ∙ ap (fault (goal.at.returns-then-not-setting_ok c).After-at_most-count) c.at_most-count.ensures

pub loop-i-preserved : goal.loop-i-preserved
loop-i-preserved c =
    let l = c.loop-i in
    every-on _ l.i l.invariant (sym c.setting_ok.ensures ∙ not-false _ c.if-not-setting_ok.false-raw)

pub returns : goal.returns
returns c =
    let l = c.loop-i in
    sym (failing-none _ _ (every-end _ (omega arith) c.loop-i-test.false l.invariant)) ∙ ap (fault (goal.at.returns c).After-at_most-count) c.at_most-count.ensures
