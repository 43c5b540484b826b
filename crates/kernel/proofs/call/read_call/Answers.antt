use Prim.Native.Nat.{ℕ}
use mathlib.Core.Path.{◌≡◌, sym, ap, ◌∙◌}
use mathlib.Core.List.{[]}
use lib.ListN.{length}
use Rattle.std.proofs.lemmas.Result.{err_from_is_err_and}
use Rattle.records.specs.Refusals.{Tests, answer, verdict}
use Rattle.records.specs.Jobs.{job_list}
use Rattle.records.proofs.Reading.{jobs-listed}
use Rattle.records.proofs.Asking.{call-knows, more-before, more-turned, more-on}
use Rattle.kernel.specs.Priorities.{priority_tests}
use Rattle.kernel.proofs.call.read_call.Goals as goal
use Rattle.kernel.proofs.call.read_call.Goals.{Start, After-judge_priorities}

-- What is asked of the priorities, for the jobs of the block.
abbrev more : Start → Tests
more s = priority_tests (length (job_list s.args.jobs.now)) s.args.lowest s.args.highest

pub returns-in_err-call : goal.returns-in_err-call
returns-in_err-call c =
    let p = err_from_is_err_and c.from_residual.result c.from_residual.ensures.1 in
    rw (p.1, p.2) (more-before c.args.jobs.now c.args.low c.args.high c.read_call.result c.read_call.ensures (more (goal.at.returns-in_err-call c).Start) _ c.in_err-call.was)

judged : (c : After-judge_priorities) → verdict c.judge_priorities.result ≡ answer (more (goal.at.After-judge_priorities c).Start) tt
judged c =
    let j = c.args.jobs.now in
    let known = (call-knows j c.args.low c.args.high [] c.read_call.result c.read_call.ensures _ c.in_ok-call.was).1 in
    c.judge_priorities.ensures ∙ ap (λ (k : ℕ). answer (priority_tests k c.args.lowest c.args.highest) tt) (known.count ∙ sym (jobs-listed j))

pub returns-in_err-judge_priorities : goal.returns-in_err-judge_priorities
returns-in_err-judge_priorities c =
    let p = err_from_is_err_and c.from_residual-in_err-judge_priorities.result c.from_residual-in_err-judge_priorities.ensures.1 in
    rw (p.1, p.2)
    (more-turned c.args.jobs.now c.args.low c.args.high c.read_call.result c.read_call.ensures (more (goal.at.returns-in_err-judge_priorities c).Start) _ c.in_ok-call.was c.judge_priorities.result (judged (goal.at.returns-in_err-judge_priorities c).After-judge_priorities) _ c.in_err-judge_priorities.was)

pub returns : goal.returns
returns c =
    more-on c.args.jobs.now c.args.low c.args.high c.read_call.result c.read_call.ensures (more (goal.at.returns c).Start) _ c.in_ok-call.was c.judge_priorities.result (judged (goal.at.returns c).After-judge_priorities) _ c.in_ok-judge_priorities.was
