use Prim.Native.Nat.{◌<◌}
use mathlib.Core.List.{List}
use Rattle.records.specs.declared.job.Job.{Job}
use mathlib.Core.Path.{◌≡◌, ◌∙◌}
use native.Mathlib.Omega.{arith}
use lib.ListN.{length}
use Rattle.sets.specs.Sets.{has}
use Rattle.response.specs.Demand.{bound}
use Rattle.assignment.proofs.Settling.{raised-next, past-highest}
use Rattle.planner.specs.Questions.{listed}
use Rattle.planner.proofs.Asked.{listed-length, listed-costs, asked-bound}
use Rattle.planner.proofs.quanta.raise.Goals as goal
use Rattle.planner.proofs.quanta.raise.Goals.{After-bound, Start}

-- What is known of the question, the layer and the job.
module _ (c : Start) where
  abbrev jobs : List Job
  jobs = listed c.args.question.now

  place : c.args.job < length jobs
  place = omega (arith, c.requires.2, listed-length c.args.question.now)

-- The bound that a turn finds.
found : (c : After-bound) → let a = c.args in
    c.bound.result ≡ bound (listed a.question.now) c.loop-workload.now (has a.layer) (has a.above) a.job
found c =
    let a = c.args in
    c.bound.ensures ∙ asked-bound a.question.now a.layer a.above c.requires.0 c.loop-workload.now a.job c.requires.2

pub returns-then-range-now : goal.returns-then-range-now
returns-then-range-now c =
    let a = c.args in
    let s = (goal.at.returns-then-range-now c).Start in
    past-highest (jobs s) (listed-costs a.question.now) a.question.now.range.low a.question.now.range.high a.question.now.low (has a.layer) (has a.above) a.job (place s) c.requires.3
    c.loop-workload.now c.loop-workload.invariant.standing (λ p. omega (arith, found (goal.at.returns-then-range-now c).After-bound, c.loop-workload-test.true)) c.if-range-now.true

pub loop-workload-preserved : goal.loop-workload-preserved
loop-workload-preserved c =
    let a = c.args in
    let s = (goal.at.loop-workload-preserved c).Start in
    raised-next (jobs s) (listed-costs a.question.now) a.question.now.range.low a.question.now.range.high a.question.now.low (has a.layer) (has a.above) a.job (place s) c.requires.3
    a.quanta c.loop-workload.now c.loop-workload.invariant (λ p. omega (arith, found (goal.at.loop-workload-preserved c).After-bound, c.loop-workload-test.true)) c.if-range-now.false

pub returns : goal.returns
returns c = (c.loop-workload.invariant, omega (arith, found (goal.at.returns c).After-bound, c.loop-workload-test.false))
