use Prim.Native.Nat.{◌+◌, ◌*◌, ◌^◌, ◌<◌, ◌≤◌}
use mathlib.Core.Path.{◌≡◌, refl, ap}
use native.Mathlib.Omega.{arith}
use native.Mathlib.Numerals.{add-one}
use mir.Syntax.{w16}
use mir.Val.{Fits}
use lib.ListN.{take}
use lib.Seq.{length-take-le, get_or-take}
use Rattle.records.specs.Limits.{most_jobs}
use Rattle.records.specs.Jobs.{blank_job, job_at}
use Rattle.records.specs.declared.job.Job.{Job}
use Rattle.periods.specs.ByPeriods.{period_at}
use Rattle.periods.proofs.Summing.{sums_none, sums_next}
use borrow.Author.Rules.{rules}
use Rattle.periods.proofs.sums.sums_of.Goals as goal

pub loop-job-init : goal.loop-job-init
loop-job-init c = (refl, sums_none _)

pub loop-job-preserved : goal.loop-job-preserved
loop-job-preserved c =
    let jobs = c.args.jobs in
    let l = c.loop-job in
    let i = l.job-index in
    let few = length-take-le c.at_most.result jobs (search rules) in
    let taken : i < c.at_most.result = omega (arith, c.loop-job-test.true, few) in
    let inside : i < most_jobs = omega (arith, taken, c.at_most.ensures) in
    let own : (job_at (take c.at_most.result jobs) i).period ≡ period_at jobs i = ap (λ (job : Job). job.period) (get_or-take c.at_most.result jobs i blank_job taken) in
    let fits : Fits w16 (job_at jobs i).period = search rules in
    let small : (job_at (take c.at_most.result jobs) i).period ≤ 65535 = omega (arith, own, fits) in
    let twice : l.half * 2 ≡ 2 ^ (i + 1) = rw add-one (omega (arith, l.invariant.0)) in
    (twice, sums_next _ _ _ _ _ _ l.invariant.1 inside l.invariant.0 own small c.add_job.ensures)
