use Prim.Native.Nat.{ℕ, ◌<◌}
use mathlib.Core.Path.{◌≡◌, ap₂, ◌∙◌}
use mathlib.Core.List.{[], ◌∷◌}
use native.Mathlib.Omega.{arith}
use lib.ListN.{length, get_or, take, length-take}
use lib.Seq.{get_or-take}
use Rattle.std.proofs.lemmas.Slice.Zip.{zip_turn}
use Rattle.records.specs.Jobs.{blank_job}
use Rattle.records.specs.declared.job.Job.{Job}
use Rattle.writing.proofs.Writing.{row-more}
use Rattle.marking.specs.Marks.{over_text}
use borrow.Author.Rules.{rules}
use Rattle.marking.proofs.put_overs.Goals as goal
use Rattle.marking.proofs.put_overs.Goals.{In-Some}

-- Where this turn's job and bound stand.
turn : (c : In-Some) → let a = c.args in let k = length c.loop-job.yielded in
    (k < a.n) × (c.in-Some.job.now ≡ get_or a.jobs k blank_job) × (c.in-Some.bound.now ≡ get_or a.bounds k 0)
turn c =
    let a = c.args in
    let k = length c.loop-job.yielded in
    let at = zip_turn (take a.n a.jobs) a.bounds c.loop-job.yielded _ c.loop-job.job-iterator c.next.new.self c.next.result (search rules) (search rules) c.loop-job.yielded_by _ c.in-Some.is c.next.ensures.steps in
    let within : k < a.n = omega (arith, at.0, length-take a.n a.jobs) in
    (within, at.2 blank_job ∙ get_or-take a.n a.jobs k blank_job within, at.3 0)

pub loop-job-preserved : goal.loop-job-preserved
loop-job-preserved c =
    let a = c.args in
    let here = turn (goal.at.loop-job-preserved c).In-Some in
    row-more 20 (over_text a.jobs a.bounds) c.loop-job.yielded _ c.loop-job.invariant c.put_over-at.ensures
    (ap₂ (λ (job : Job) (bound : ℕ). over_text (job ∷ []) (bound ∷ []) 0) here.1 here.2)
