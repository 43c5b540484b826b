use Prim.Native.Nat.{ℕ}
use mathlib.Core.Path.{◌≡◌, refl, subst, ◌∙◌}
use native.Mathlib.Omega.{arith}
use lib.Dec.{leb}
use borrow.Author.Tests.{le-leb, lt-leb}
use Rattle.sets.specs.Sets.{Set, Collects}
use Rattle.sets.proofs.Members.{collect-none, collect-in, collect-out}
use Rattle.records.specs.Limits.{most_jobs}
use Rattle.records.specs.Jobs.{job_at}
use Rattle.finishes.proofs.finish.short_jobs.Goals as goal
use Rattle.finishes.proofs.finish.short_jobs.Goals.{then-job-longest, else-job-longest}

pub loop-i-init : goal.loop-i-init
loop-i-init c = collect-none _

pub loop-i-preserved : goal.loop-i-preserved
loop-i-preserved c =
    let l = c.loop-i in
    let a = c.args in
    let set : Set = λ i. leb (job_at a.jobs i).period a.longest in
    elim c.if-job-longest.branch [ then-job-longest w ↦ collect-in l.i set l.set l.invariant refl (omega arith) (le-leb (job_at a.jobs l.i).period a.longest w.if-job-longest.true) c.if-job-longest.set (w.set-is ∙ w.insert-set.ensures) | else-job-longest w ↦ collect-out l.i set l.set l.invariant refl (lt-leb (job_at a.jobs l.i).period a.longest (omega (arith, w.if-job-longest.false))) c.if-job-longest.set w.set-is ]

pub returns : goal.returns
returns c =
    let l = c.loop-i in
    let a = c.args in
    let e : l.i ≡ most_jobs = omega arith in
    subst (λ (k : ℕ). Collects k (λ i. leb (job_at a.jobs i).period a.longest) l.set) e l.invariant
