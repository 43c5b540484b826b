use Prim.Native.Nat.{ℕ, ◌+◌, ◌*◌, ◌^◌, ◌≤◌}
use mathlib.Core.Path.{◌≡◌, sym, ◌∙◌, ap}
use native.Mathlib.Omega.{arith}
use lib.ListN.{length}
use Rattle.sets.specs.Places.{sum_over}
use Rattle.sets.specs.Sets.{has}
use Rattle.sets.proofs.Places.{over_none, over-in, over-out}
use Rattle.records.specs.Limits.{most_jobs}
use Rattle.records.specs.Jobs.{job_at}
use Rattle.response.specs.Demand.{work, interference}
use borrow.Author.Rules.{rules}
use Rattle.finishes.proofs.demand.works_of.Goals as goal
use Rattle.finishes.proofs.demand.works_of.Goals.{then-contains, else-contains, then-contains-2, else-contains-2}

pub loop-i-init : goal.loop-i-init
loop-i-init c = (sym (over_none _ _), sym (over_none _ _), omega arith, omega arith)

pub loop-i-preserved : goal.loop-i-preserved
loop-i-preserved c =
    let l = c.loop-i in
    let a = c.args in
    let f : ℕ → ℕ = λ k. work (job_at a.jobs k) a.t in
    let long : (c.if-contains.of_long ≡ sum_over (l.i + 1) (has a.long) f) × (c.if-contains.of_long ≤ (l.i + 1) * 2 ^ 39) =
    elim c.if-contains.branch [ then-contains w ↦ (w.of_long-is ∙ omega (arith, over-in l.i (has a.long) f c.contains.ensures w.if-contains.true, w.work-of_long.ensures.0, l.invariant.0), omega (arith, w.of_long-is, w.work-of_long.ensures.1, l.invariant.2)) | else-contains w ↦ (w.of_long-is ∙ omega (arith, over-out l.i (has a.long) f c.contains.ensures w.if-contains.false, l.invariant.0), omega (arith, w.of_long-is, l.invariant.2)) ] in
    let short : (c.if-contains-2.of_short ≡ sum_over (l.i + 1) (has a.short) f) × (c.if-contains-2.of_short ≤ (l.i + 1) * 2 ^ 39) =
    elim c.if-contains-2.branch [ then-contains-2 w ↦ (w.of_short-is ∙ omega (arith, over-in l.i (has a.short) f c.contains-in-loop-i.ensures w.if-contains-2.true, w.work-of_short.ensures.0, l.invariant.1), omega (arith, w.of_short-is, w.work-of_short.ensures.1, l.invariant.3)) | else-contains-2 w ↦ (w.of_short-is ∙ omega (arith, over-out l.i (has a.short) f c.contains-in-loop-i.ensures w.if-contains-2.false, l.invariant.1), omega (arith, w.of_short-is, l.invariant.3)) ] in
    (long.0, short.0, long.1, short.1)

pub returns : goal.returns
unfolding interference
returns c =
    let a = c.args in
    let l = c.loop-i in
    let f : ℕ → ℕ = λ k. work (job_at a.jobs k) a.t in
    let eight : length a.jobs ≡ most_jobs = search rules in
    let e : l.i ≡ length a.jobs = omega arith in
    (l.invariant.0 ∙ ap (λ (n : ℕ). sum_over n (has a.long) f) e, l.invariant.1 ∙ ap (λ (n : ℕ). sum_over n (has a.short) f) e, omega (arith, l.invariant.2), omega (arith, l.invariant.3))
