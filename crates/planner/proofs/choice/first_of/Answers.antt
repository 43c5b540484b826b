use mathlib.Core.Path.{◌≡◌, sym, ap, ◌∙◌}
use mathlib.Core.Bool.{false}
use mathlib.Core.Option.{some}
use native.Mathlib.Omega.{arith}
use lib.ListN.{get_or, take}
use Rattle.sets.specs.Order.{subsets}
use Rattle.sets.proofs.Parts.{within-le}
use Rattle.sets.proofs.Walk.{Step, walk-found, walk_ends}
use Rattle.sets.proofs.Searching.{reached-end, reached-taken, reached-next}
use Rattle.assignment.specs.Plan.{is_found}
use Rattle.planner.specs.Questions.{finds}
use Rattle.planner.proofs.choice.first_of.Invariants.{takeable}
use Rattle.planner.proofs.choice.first_of.Goals as goal
use Rattle.planner.proofs.choice.first_of.Goals.{In-Some}

-- The step of the walk to a set.
step : (c : In-Some) → Step c.args.sequence.now c.args.left c.loop-at.place c.in-Some.at
step c = walk-found c.args.sequence.now c.args.left c.loop-at.place c.in-Some.at (sym c.next_subset.ensures ∙ c.in-Some.is)

pub bounds-sequence-at : goal.bounds-sequence-at
bounds-sequence-at c = omega (arith, (step (goal.at.bounds-sequence-at c).In-Some).before)

pub quanta_for-found-requires : goal.quanta_for-found-requires
quanta_for-found-requires c =
    (c.requires.0, omega (arith, within-le (get_or c.args.sequence.now c.in-Some.at 0) c.args.left (step (goal.at.quanta_for-found-requires c).In-Some).inside, c.requires.0))

pub returns-in-Some-found : goal.returns-in-Some-found
returns-in-Some-found c =
    let a = c.args in
    let S = step (goal.at.returns-in-Some-found c).In-Some in
    let f : finds a.question.now a.left (get_or a.sequence.now c.in-Some.at 0) ≡ some (take a.question.now.n c.in-Some-found.quanta) = sym c.in-Some-found.ensures in
    let A = reached-taken (takeable a.question.now a.left) (subsets a.left a.sequence.now) _ c.loop-at.missed c.loop-at.invariant.0 _ _ S.first (ap is_found f) in
    record { set = sym A.first; quanta = λ p. f; count = sym A.count; few = omega (arith, c.loop-at.invariant.1, S.later, S.before) }

pub overflow_add-place : goal.overflow_add-place
overflow_add-place c =
    omega (arith, (step (goal.at.overflow_add-place c).In-Some).before, c.requires.1)

pub loop-at-smaller : goal.loop-at-smaller
loop-at-smaller c =
    let S = step (goal.at.loop-at-smaller c).In-Some in
    omega (arith, S.later, S.before)

pub loop-at-preserved : goal.loop-at-preserved
loop-at-preserved c =
    let a = c.args in
    let S = step (goal.at.loop-at-preserved c).In-Some in
    let missed : takeable a.question.now a.left (get_or a.sequence.now c.in-Some.at 0) ≡ false = ap is_found (sym c.in_default-found.ensures) in
    (reached-next (takeable a.question.now a.left) (subsets a.left a.sequence.now) _ c.loop-at.missed c.loop-at.invariant.0 _ _ S.first missed, omega (arith, c.loop-at.invariant.1, S.later), omega (arith, S.before))

pub returns : goal.returns
returns c =
    let a = c.args in
    let A = reached-end (takeable a.question.now a.left) (subsets a.left a.sequence.now) _ c.loop-at.missed c.loop-at.invariant.0 (walk_ends a.sequence.now a.left c.loop-at.place (sym c.next_subset.ensures ∙ c.in_default.is)) in
    record { set = sym A.first; quanta = λ p. absurd (omega arith); count = sym A.count; few = omega (arith, c.loop-at.invariant.1, c.loop-at.invariant.2) }
