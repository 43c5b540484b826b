use native.Mathlib.Omega.{arith}
use Prim.Native.Nat.{ℕ}
use mathlib.Core.Path.{◌≡◌, refl, sym, ◌∙◌, ap}
use mathlib.Core.Bool.{Bool}
use native.Mathlib.Numerals.{add-one}
use borrow.Author.Tests.{not-true, not-false}
use Rattle.sets.specs.Places.{failing}
use Rattle.sets.proofs.Places.{every-none, every-on, every-end, failing-stop, failing-none}
use Rattle.records.specs.Jobs.{job_at, job_ok, id_before, job_ok_at}
use Rattle.records.proofs.judge.first_faulty.Goals as goal
use Rattle.records.proofs.judge.first_faulty.Goals.{In-loop-i}

pub loop-i-init : goal.loop-i-init
loop-i-init c = (refl, every-none _)

-- The test that the code made is the one at the place.
here : (p : In-loop-i) {b : Bool} → let l = p.loop-i in let a = p.args in
    b ≡ job_ok a.rule l.before (job_at a.table l.i) → job_ok_at a.rule a.table l.i ≡ b
here p e = let l = p.loop-i in let a = p.args in sym (e ∙ ap (λ (x : ℕ). job_ok a.rule x (job_at a.table l.i)) l.invariant.0)

pub returns-then-not-job_ok : goal.returns-then-not-job_ok
returns-then-not-job_ok c =
    let l = c.loop-i in
    sym (failing-stop _ _ l.i c.loop-i-test.true l.invariant.1 (here (goal.at.returns-then-not-job_ok c).In-loop-i c.job_ok.ensures ∙ not-true _ c.if-not-job_ok.true-raw))
    ∙ ap (failing (job_ok_at c.args.rule c.args.table)) c.at_most-count.ensures

pub loop-i-preserved : goal.loop-i-preserved
loop-i-preserved c =
    let l = c.loop-i in
    let a = c.args in
    (sym (ap (id_before a.table) (add-one l.i)), every-on _ l.i l.invariant.1 (here (goal.at.loop-i-preserved c).In-loop-i c.job_ok.ensures ∙ not-false _ c.if-not-job_ok.false-raw))

pub returns : goal.returns
returns c =
    let l = c.loop-i in
    sym (failing-none _ _ (every-end _ (omega arith) c.loop-i-test.false l.invariant.1))
    ∙ ap (failing (job_ok_at c.args.rule c.args.table)) c.at_most-count.ensures
