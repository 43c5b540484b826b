use Prim.Native.Nat.{ℕ, ◌≤◌}
use mathlib.Core.Path.{refl, ap, ◌∙◌}
use mathlib.Core.List.{List}
use native.Mathlib.Omega.{arith}
use Rattle.std.specs.Prelude.{Ok}
use Rattle.records.specs.Limits.{most_jobs}
use Rattle.records.specs.Refusals.{Answer}
use Rattle.records.specs.declared.job.Job.{Job}
use Rattle.records.proofs.Reading.{jobs-read, count_most}
use Rattle.capi.specs.Words.{word, count_value}
use Rattle.capi.proofs.ruzhtylen_read_jobs.Goals as goal
use Rattle.capi.proofs.ruzhtylen_read_jobs.Goals.{In-Ok}

few : (c : In-Ok) → c.in-Ok.read.count ≤ most_jobs
few c =
    let block = c.args.jobs.now in
    let known = jobs-read block (Ok c.in-Ok.read) c.in-Ok.ensures c.in-Ok.read refl in
    omega (arith, count_most block known.0, known.1)

pub overflow_cast-result : goal.overflow_cast-result
overflow_cast-result c = record { fits = omega (arith, few (goal.at.overflow_cast-result c).In-Ok) }

pub overflow_mul-result : goal.overflow_mul-result
overflow_mul-result c = record { fits = omega (arith, few (goal.at.overflow_mul-result c).In-Ok) }

pub returns-in-Ok : goal.returns-in-Ok
returns-in-Ok c = ap (λ (o : Answer ℕ × List Job). word count_value o.0) c.in-Ok.ensures

pub returns-in-Err : goal.returns-in-Err
returns-in-Err c = c.number.ensures ∙ ap (λ (o : Answer ℕ × List Job). word count_value o.0) c.in-Err.ensures
