use Prim.Native.Nat.{ℕ, suc, ◌+◌, ◌-◌, ◌≤◌}
use lib.ListN.{length, take}
use Rattle.periods.specs.ByPeriods.{by_periods}
use Rattle.periods.proofs.Ruling.{periods-length}
use Rattle.assignment.specs.Plan.{place}
use Rattle.planner.specs.Questions.{listed}
use Rattle.planner.specs.Stages.{most_sets, progress_of, stage_of}
use mathlib.Core.Path.{◌≡◌, refl, ap, subst, ◌∙◌}
use native.Mathlib.Omega.{arith}
use Rattle.planner.proofs.LevelByLevel.{Reaches, reaches-start, reaches_end, reaches-room, reaches-inside, reaches-stop, reaches-next}
use Rattle.planner.proofs.levels.plan_levels.Goals as goal
use Rattle.planner.proofs.levels.plan_levels.Goals.{In-loop-level, Start}

-- The order has a place for each set.
short : (s : Start) → length (by_periods (listed s.args.question)) ≤ most_sets
short s = omega (arith, periods-length (listed s.args.question))

pub loop-level-init : goal.loop-level-init
loop-level-init c =
    reaches-start c.args.question (by_periods (listed c.args.question)) (short (goal.at.loop-level-init c).Start) c.start-progress.result c.start-progress.ensures

-- A turn's level is one past the next one's.
below : (c : In-loop-level) → Reaches c.args.question (by_periods (listed c.args.question)) (suc (c.loop-level.level - 1)) c.loop-level.progress
below c =
    let l = c.loop-level in
    let e : l.level ≡ suc (l.level - 1) = omega (arith, c.loop-level-test.true) in
    subst (λ (m : ℕ). Reaches c.args.question (by_periods (listed c.args.question)) m l.progress) e l.invariant

pub overflow_add-progress : goal.overflow_add-progress
overflow_add-progress c =
    omega (arith, reaches-room c.args.question (by_periods (listed c.args.question)) (short (goal.at.overflow_add-progress c).Start) (c.loop-level.level - 1) c.loop-level.progress (below (goal.at.overflow_add-progress c).In-loop-level) c.choose-choice.result c.choose-choice.ensures)

pub returns-then-choice-eq0 : goal.returns-then-choice-eq0
returns-then-choice-eq0 c =
    reaches-stop c.args.question (by_periods (listed c.args.question)) (short (goal.at.returns-then-choice-eq0 c).Start) (c.loop-level.level - 1) c.loop-level.progress (below (goal.at.returns-then-choice-eq0 c).In-loop-level) c.choose-choice.result c.choose-choice.ensures c.if-choice-eq0.true _ refl

pub place-progress-requires : goal.place-progress-requires
place-progress-requires c =
    let w = reaches-inside c.args.question (by_periods (listed c.args.question)) (short (goal.at.place-progress-requires c).Start) (c.loop-level.level - 1) c.loop-level.progress (below (goal.at.place-progress-requires c).In-loop-level) c.choose-choice.result c.choose-choice.ensures in
    (w.0, w.1, reaches-room c.args.question (by_periods (listed c.args.question)) (short (goal.at.place-progress-requires c).Start) (c.loop-level.level - 1) c.loop-level.progress (below (goal.at.place-progress-requires c).In-loop-level) c.choose-choice.result c.choose-choice.ensures)

pub loop-level-preserved : goal.loop-level-preserved
loop-level-preserved c =
    let a = c.args in
    let v = c.loop-level.level - 1 in
    let e : c.loop-level.level ≡ suc v = omega (arith, c.loop-level-test.true) in
    let r = c.choose-choice.result in
    let is = c.place-progress.ensures
    ∙ ap (λ (m : ℕ). progress_of (place (listed a.question) m r.set (take a.question.n r.quanta) (stage_of c.loop-level.progress)) (c.loop-level.progress.considered + r.considered)) e
    in
    reaches-next a.question (by_periods (listed a.question)) (short (goal.at.loop-level-preserved c).Start) v c.loop-level.progress (below (goal.at.loop-level-preserved c).In-loop-level) r c.choose-choice.ensures c.if-choice-eq0.false c.place-progress.result is

pub returns : goal.returns
returns c =
    let l = c.loop-level in
    let e : l.level ≡ 0 = omega (arith, c.loop-level-test.false) in
    reaches_end c.args.question (by_periods (listed c.args.question)) (short (goal.at.returns c).Start) l.progress (subst (λ (m : ℕ). Reaches c.args.question (by_periods (listed c.args.question)) m l.progress) e l.invariant)
