use Prim.Native.Nat.{ℕ, ◌<◌}
use mathlib.Core.Path.{◌≡◌, ap, ◌∙◌}
use mathlib.Core.Bool.{true}
use mathlib.Core.List.{List}
use native.Mathlib.Omega.{arith}
use lib.ListN.{length}
use borrow.Author.Rules.{rules}
use Rattle.sets.specs.Sets.{has}
use Rattle.sets.proofs.Members.{has-none, member-lt}
use Rattle.sets.proofs.Parts.{within_has}
use Rattle.sets.proofs.LowestMember.{Split, split, split-within}
use Rattle.records.specs.declared.job.Job.{Job}
use Rattle.assignment.proofs.Serving.{Costs}
use Rattle.assignment.proofs.Settling.{none-pending, turn-ends, turn-goes, turn-less}
use Rattle.planner.specs.Questions.{listed}
use Rattle.planner.proofs.Asked.{listed-length, listed-costs}
use Rattle.planner.proofs.quanta.+settle.Goals as goal
use Rattle.planner.proofs.quanta.+settle.Goals.{Start, At-loop-stood}

-- What is known of the question.
module _ (t : ℕ) (c : Start t) where
  abbrev jobs : List Job
  jobs = listed c.args.question.now

  costs : Costs jobs
  costs = listed-costs c.args.question.now

  lp : 0 < c.args.question.now.range.low
  lp = c.args.question.now.low

-- What is known at a turn of the loop.
module _ (t : ℕ) (c : At-loop-stood t) where
  abbrev start : Start t
  start = (goal.at.At-loop-stood t c).Start

  splits : Split c.args.pending c.lowest-job.result c.remove-after.result
  splits = split c.args.pending c.lowest-job.result c.remove-after.result c.if-pending-eq0.false (search rules) c.lowest-job.ensures c.remove-after.ensures

  in-layer : has c.args.layer c.lowest-job.result ≡ true
  in-layer = within_has c.args.pending c.args.layer c.requires.sub c.lowest-job.result splits.own

  place : c.lowest-job.result < c.args.question.now.n
  place = member-lt c.args.question.now.n c.args.layer c.lowest-job.result c.requires.laid.inside in-layer

  listed-place : c.lowest-job.result < length (jobs t start)
  listed-place = omega (arith, place, listed-length c.args.question.now)

pub returns-then-pending-eq0 : goal.returns-then-pending-eq0
returns-then-pending-eq0 t c =
    let s = (goal.at.returns-then-pending-eq0 t c).Start in
    let a = c.args in
    none-pending (jobs t s) (costs t s) a.question.now.range.low a.question.now.range.high (lp t s) (has a.layer) (has a.above) (has a.pending) a.quanta
    (λ i. ap (λ (x : ℕ). has x i) c.if-pending-eq0.true ∙ has-none i) c.requires.standing

pub settle-requires : goal.settle-requires
settle-requires t c =
    let l = (goal.at.settle-requires t c).At-loop-stood in
    let S = splits t l in (
      omega (arith, c.decreases, S.fewer),
      record {
        laid = c.requires.laid;
        sub = split-within c.args.pending c.lowest-job.result c.remove-after.result c.args.layer S (search rules) c.requires.sub;
        standing = c.loop-stood.invariant.0;
      },
    )

pub raise-requires : goal.raise-requires
raise-requires t c =
    let l = (goal.at.raise-requires t c).At-loop-stood in
    (c.requires.laid, c.in_ok-stood.ensures.standing, place t l, in-layer t l)

pub bounds-now-job : goal.bounds-now-job
bounds-now-job t c = (splits t (goal.at.bounds-now-job t c).At-loop-stood).small

pub bounds-stood-job : goal.bounds-stood-job
bounds-stood-job t c = (splits t (goal.at.bounds-stood-job t c).At-loop-stood).small

pub returns-then-now-job : goal.returns-then-now-job
returns-then-now-job t c =
    let l = (goal.at.returns-then-now-job t c).At-loop-stood in
    let s = start t l in
    let a = c.args in
    let S = splits t l in
    turn-ends (jobs t s) (costs t s) a.question.now.range.low a.question.now.range.high (lp t s) (has a.layer) (has a.above) c.lowest-job.result (listed-place t l) (in-layer t l)
    (has a.pending) (has c.remove-after.result) S.own S.off S.inside S.outside a.quanta c.loop-stood.now c.loop-stood.invariant.1 c.in_ok-stood.stood c.in_ok-stood.ensures c.in_ok-now.now c.in_ok-now.ensures.0 c.in_ok-now.ensures.1 c.if-now-job.true

pub loop-stood-smaller : goal.loop-stood-smaller
loop-stood-smaller t c =
    let l = (goal.at.loop-stood-smaller t c).At-loop-stood in
    let s = start t l in
    let a = c.args in
    let S = splits t l in
    turn-less (jobs t s) (costs t s) a.question.now.range.low a.question.now.range.high (lp t s) (has a.layer) (has a.above) c.lowest-job.result (listed-place t l) (in-layer t l)
    (has a.pending) (has c.remove-after.result) S.own S.off S.inside S.outside a.quanta c.loop-stood.now c.loop-stood.invariant.1 c.in_ok-stood.stood c.in_ok-stood.ensures c.in_ok-now.now c.in_ok-now.ensures.0 c.in_ok-now.ensures.1 c.if-now-job.false

pub loop-stood-preserved : goal.loop-stood-preserved
loop-stood-preserved t c =
    let l = (goal.at.loop-stood-preserved t c).At-loop-stood in
    let s = start t l in
    let a = c.args in
    let S = splits t l in (
      c.in_ok-now.ensures.0.standing,
      turn-goes (jobs t s) (costs t s) a.question.now.range.low a.question.now.range.high (lp t s) (has a.layer) (has a.above) c.lowest-job.result (listed-place t l) (in-layer t l)
          (has a.pending) (has c.remove-after.result) S.own S.off S.inside S.outside a.quanta c.loop-stood.now c.loop-stood.invariant.1 c.in_ok-stood.stood c.in_ok-stood.ensures c.in_ok-now.now c.in_ok-now.ensures.0 c.in_ok-now.ensures.1,
    )
