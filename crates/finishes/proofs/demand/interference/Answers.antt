use Prim.Native.Nat.{ℕ}
use mathlib.Core.Path.{◌≡◌, sym, ◌∙◌, ap}
use native.Mathlib.Omega.{arith}
use lib.ListN.{length}
use Rattle.sets.specs.Places.{sum_over}
use Rattle.sets.specs.Sets.{has}
use Rattle.sets.proofs.Places.{over_none, over-in, over-out}
use Rattle.records.specs.Limits.{most_jobs}
use Rattle.records.specs.Jobs.{job_at}
use Rattle.response.specs.Demand.{work, interference}
use borrow.Author.Rules.{rules}
use Rattle.finishes.proofs.demand.interference.Goals as goal
use Rattle.finishes.proofs.demand.interference.Goals.{then-contains, else-contains}

pub loop-i-init : goal.loop-i-init
loop-i-init c = (sym (over_none _ _), omega arith)

pub loop-i-preserved : goal.loop-i-preserved
loop-i-preserved c =
    let a = c.args in
    let l = c.loop-i in
    let f : ℕ → ℕ = λ k. work (job_at a.jobs k) a.t in
    elim c.if-contains.branch [ then-contains w ↦ (w.sum-is ∙ omega (arith, over-in l.i (has a.above) f c.contains.ensures w.if-contains.true, w.work-sum.ensures.0, l.invariant.0), omega arith) | else-contains w ↦ (w.sum-is ∙ omega (arith, over-out l.i (has a.above) f c.contains.ensures w.if-contains.false, l.invariant.0), omega arith) ]

pub returns : goal.returns
unfolding interference
returns c =
    let a = c.args in
    let l = c.loop-i in
    let eight : length a.jobs ≡ most_jobs = search rules in
    let e : l.i ≡ length a.jobs = omega arith in
    (l.invariant.0 ∙ ap (λ (n : ℕ). sum_over n (has a.above) (λ k. work (job_at a.jobs k) a.t)) e, omega arith)
