use mathlib.Core.Path.{◌∙◌}
use mathlib.Core.List.{[]}
use Rattle.std.proofs.lemmas.Result.{err_from_is_err_and}
use Rattle.planner.specs.Plans.{plan_outcome}
use Rattle.planner.proofs.Promising.{put-turned, put_on}
use Rattle.planner.proofs.Holding.{promise}
use Rattle.planner.proofs.plan.Goals as goal

pub returns-in_err-call : goal.returns-in_err-call
unfolding plan_outcome
returns-in_err-call c =
    let a = c.args in
    let p = err_from_is_err_and c.from_residual.result c.from_residual.ensures.1 in
    rw (p.1, p.2)
    (promise a.jobs.now a.low a.high a.configuration.now a.bounds.now _
    (put-turned a.jobs.now a.low a.high [] c.read_call.result c.read_call.ensures a.configuration.now a.bounds.now _ c.in_err-call.was))

pub returns : goal.returns
unfolding plan_outcome
returns c =
    let a = c.args in
    promise a.jobs.now a.low a.high a.configuration.now a.bounds.now _
    (c.put_plan.ensures ∙ put_on a.jobs.now a.low a.high [] c.read_call.result c.read_call.ensures a.configuration.now a.bounds.now _ c.in_ok-call.was)
