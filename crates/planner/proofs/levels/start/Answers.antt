use Rattle.planner.proofs.Progressing.{start_is}
use Prim.Native.Nat.{ℕ, ◌<◌}
use lib.ListN.{length, take}
use lib.Seq.{length-take-le, get_or-take}
use Rattle.records.specs.declared.job.Job.{Job}
use mathlib.Core.Path.{◌≡◌, refl, ap, ◌∙◌}
use native.Mathlib.Omega.{arith}
use Rattle.sets.specs.Places.{list_of}
use Rattle.records.specs.Limits.{most_jobs}
use Rattle.records.specs.Jobs.{blank_job, job_at}
use Rattle.records.proofs.FixedWidth.{list-next}
use Rattle.configuration.specs.Settings.{blank_setting, setting_table}
use Rattle.assignment.specs.Plan.{setting_left}
use Rattle.planner.proofs.levels.start.Goals as goal
use Rattle.planner.proofs.levels.start.Goals.{Start}

-- The jobs that the loop goes through.
size : (c : Start) → length (take c.args.question.now.n c.args.question.now.workload.jobs) ≡ c.args.question.now.n
size c = length-take-le c.args.question.now.n c.args.question.now.workload.jobs (omega (arith, c.args.question.now.table, c.args.question.now.few))

pub loop-k-init : goal.loop-k-init
unfolding list_of
loop-k-init c = refl

pub loop-k-preserved : goal.loop-k-preserved
loop-k-preserved c =
    let l = c.loop-k in
    let a = c.args in
    let within : l.k < a.question.now.n = omega (arith, size (goal.at.loop-k-preserved c).Start) in
    list-next (λ i. setting_left (job_at a.question.now.workload.jobs i).id) most_jobs l.k blank_setting l.settings _ (omega (arith, within, a.question.now.few)) l.invariant
    (ap (λ (job : Job). setting_left job.id) (get_or-take a.question.now.n a.question.now.workload.jobs l.k blank_job within))

pub returns : goal.returns
returns c =
    let l = c.loop-k in
    let a = c.args in
    let e : l.k ≡ a.question.now.n = omega (arith, size (goal.at.returns c).Start) in
    start_is a.question.now c.first_jobs.result l.settings c.first_jobs.ensures
    (l.invariant ∙ ap (λ (k : ℕ). setting_table (list_of (λ i. setting_left (job_at a.question.now.workload.jobs i).id) k)) e)
