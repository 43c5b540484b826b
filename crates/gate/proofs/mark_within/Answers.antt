use mathlib.Core.Path.{◌∙◌}
use Rattle.std.proofs.lemmas.Result.{err_from_is_err_and}
use Rattle.records.specs.Refusals.{Tests}
use Rattle.records.specs.Jobs.{job_count}
use Rattle.limits.specs.Boxes.{limit_tests}
use Rattle.marker.proofs.HandingIn.{mark-turned, mark_on}
use Rattle.gate.specs.Outcomes.{mark_within}
use Rattle.gate.proofs.Promising.{mark-promise}
use Rattle.gate.proofs.mark_within.Goals as goal
use Rattle.gate.proofs.mark_within.Goals.{Start}

-- What the limits ask of the call.
abbrev more : Start → Tests
more s = limit_tests s.args.limits (job_count s.args.jobs.now) s.args.high

pub returns-in_err-call : goal.returns-in_err-call
unfolding mark_within
returns-in_err-call c =
    let a = c.args in
    let p = err_from_is_err_and c.from_residual.result c.from_residual.ensures.1 in
    rw (p.1, p.2)
    (mark-promise a.limits a.jobs.now a.low a.high a.configuration.now a.output.now _
    (mark-turned a.jobs.now a.low a.high (more (goal.at.returns-in_err-call c).Start) c.read_call.result c.read_call.ensures a.configuration.now a.output.now _ c.in_err-call.was))

pub returns : goal.returns
unfolding mark_within
returns c =
    let a = c.args in
    mark-promise a.limits a.jobs.now a.low a.high a.configuration.now a.output.now _
    (c.mark_hand_in.ensures ∙ mark_on a.jobs.now a.low a.high (more (goal.at.returns c).Start) c.read_call.result c.read_call.ensures a.configuration.now a.output.now _ c.in_ok-call.was)
