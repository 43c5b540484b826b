use Prim.Native.Nat.{ℕ}
use mathlib.Core.Path.{◌≡◌, ap, ◌∙◌}
use mathlib.Core.List.{[]}
use Rattle.std.proofs.lemmas.Result.{err_from_is_err_and}
use Rattle.records.specs.Refusals.{Tests, answer, verdict}
use Rattle.records.specs.Jobs.{job_count}
use Rattle.records.proofs.Asking.{call-knows, more-before, more-turned, more-on}
use Rattle.limits.specs.Boxes.{limit_tests}
use Rattle.limits.proofs.read_call.Goals as goal
use Rattle.limits.proofs.read_call.Goals.{Start, After-judge_limits}

-- What the limits ask of the jobs of the block and of the range.
abbrev more : Start → Tests
more s = limit_tests s.args.limits (job_count s.args.jobs.now) s.args.high

pub returns-in_err-call : goal.returns-in_err-call
returns-in_err-call c =
    let p = err_from_is_err_and c.from_residual.result c.from_residual.ensures.1 in
    rw (p.1, p.2) (more-before c.args.jobs.now c.args.low c.args.high c.read_call.result c.read_call.ensures (more (goal.at.returns-in_err-call c).Start) _ c.in_err-call.was)

judged : (c : After-judge_limits) → verdict c.judge_limits.result ≡ answer (more (goal.at.After-judge_limits c).Start) tt
judged c =
    let known = (call-knows c.args.jobs.now c.args.low c.args.high [] c.read_call.result c.read_call.ensures _ c.in_ok-call.was).1 in
    c.judge_limits.ensures ∙ ap (λ (k : ℕ). answer (limit_tests c.args.limits k c.args.high) tt) known.count

pub returns-in_err-judge_limits : goal.returns-in_err-judge_limits
returns-in_err-judge_limits c =
    let p = err_from_is_err_and c.from_residual-in_err-judge_limits.result c.from_residual-in_err-judge_limits.ensures.1 in
    rw (p.1, p.2)
    (more-turned c.args.jobs.now c.args.low c.args.high c.read_call.result c.read_call.ensures (more (goal.at.returns-in_err-judge_limits c).Start) _ c.in_ok-call.was c.judge_limits.result (judged (goal.at.returns-in_err-judge_limits c).After-judge_limits) _ c.in_err-judge_limits.was)

pub returns : goal.returns
returns c =
    more-on c.args.jobs.now c.args.low c.args.high c.read_call.result c.read_call.ensures (more (goal.at.returns c).Start) _ c.in_ok-call.was c.judge_limits.result (judged (goal.at.returns c).After-judge_limits) _ c.in_ok-judge_limits.was
