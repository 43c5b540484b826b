use Prim.Native.Nat.{ℕ, suc, ◌+◌, ◌-◌, ◌^◌, ◌≤◌, ◌<◌}
use mathlib.Core.Path.{◌≡◌, refl, sym, ap, ◌∙◌}
use mathlib.Core.List.{List}
use native.Mathlib.Omega.{arith}
use lib.ListN.{length, take}
use lib.Pow.{pow_mono}
use lib.Seq.{length-take-le}
use Rattle.sets.specs.Sets.{places}
use Rattle.sets.specs.Order.{subsets}
use Rattle.sets.proofs.Parts.{size-bound}
use Rattle.periods.specs.ByPeriods.{total, period_at, by_periods}
use Rattle.periods.specs.Subsets.{most_of_size, heaviest_first}
use Rattle.periods.proofs.SizeBySize.{beyond}
use Rattle.sets.proofs.Searching.{Reached}
use Rattle.planner.specs.declared.question.Question.{Question}
use Rattle.planner.specs.Questions.{listed}
use Rattle.planner.specs.Stages.{takeable, Chosen}
use Rattle.planner.proofs.Choosing.{singles-are, found-are, search-starts, missed-few, search-ends, size-misses, size-takes}
use borrow.Author.Rules.{rules}
use Rattle.planner.proofs.choice.choose.Goals as goal
use Rattle.planner.proofs.choice.choose.Goals.{After-first_of-alone, After-first_of-choice, After-subsets_of-found, In-loop-size}

-- The sets of one job.
module _ (c : After-first_of-alone) where
  abbrev question : Question
  question = c.args.question.now

  abbrev left : ℕ
  left = c.args.left

  alone-takes : (c.first_of-alone.result.set ≡ 0 → ⊥) → Chosen question (by_periods (listed question)) left c.first_of-alone.result
  alone-takes some-set =
      size-takes question _ _ c.requires.1 left c.requires.0 0 0 (search-starts question _ _ c.requires.1 left c.requires.0) (omega arith)
      c.args.singles.now (singles-are question _ _ c.requires.1 left c.requires.0) c.first_of-alone.result c.first_of-alone.ensures some-set c.first_of-alone.result refl refl (omega arith)

  alone-misses : c.first_of-alone.result.set ≡ 0 → Reached (takeable question left) (subsets left (by_periods (listed question))) (beyond (total (period_at (listed question))) left 1) c.first_of-alone.result.considered
  alone-misses none =
      size-misses question _ _ c.requires.1 left c.requires.0 0 0 (search-starts question _ _ c.requires.1 left c.requires.0) (omega arith)
      c.args.singles.now (singles-are question _ _ c.requires.1 left c.requires.0) c.first_of-alone.result c.first_of-alone.ensures none 1 c.first_of-alone.result.considered refl (omega arith)

pub returns-then-alone-ne0 : goal.returns-then-alone-ne0
returns-then-alone-ne0 c = alone-takes (goal.at.returns-then-alone-ne0 c).After-first_of-alone c.if-alone-ne0.true

pub loop-size-init : goal.loop-size-init
loop-size-init c = (omega arith, alone-misses (goal.at.loop-size-init c).After-first_of-alone c.if-alone-ne0.false)

-- A larger size: those before it are tried.
module _ (c : In-loop-size) where
  abbrev before : ℕ
  before = c.loop-size.size - 1

  next : suc before ≡ c.loop-size.size
  next = omega (arith, c.loop-size.auto.size)

  below : before < places
  below =
      omega (arith, c.loop-size-test.true, c.loop-size.auto.size, c.size-most.ensures, size-bound places (left (goal.at.In-loop-size c).After-first_of-alone) (omega (arith, c.requires.0, pow_mono c.args.question.now.few)))

module _ (c : After-subsets_of-found) where
  abbrev count : ℕ
  count = c.subsets_of-found.result.count

  fits : count ≤ length c.subsets_of-found.result.sets
  fits =
      let long : length c.subsets_of-found.result.sets ≡ most_of_size = search rules in
      omega (arith, c.subsets_of-found.ensures.few)

-- What was found among the sets of that size.
module _ (c : After-first_of-choice) where
  abbrev part : List ℕ
  part = take (count (goal.at.After-first_of-choice c).After-subsets_of-found) c.subsets_of-found.result.sets

  room : c.loop-size.missed + c.first_of-choice.result.considered < 2 ^ 16
  room =
      omega (
        arith,
        missed-few c.args.question.now _ _ c.requires.1 c.args.left c.requires.0 _ c.loop-size.missed c.loop-size.invariant.1,
        c.first_of-choice.ensures.few,
        length-take-le (count (goal.at.After-first_of-choice c).After-subsets_of-found) c.subsets_of-found.result.sets (fits (goal.at.After-first_of-choice c).After-subsets_of-found),
        c.subsets_of-found.ensures.few,
      )

  part-are : subsets c.args.left part ≡ heaviest_first (total (period_at (listed c.args.question.now))) c.args.left (suc (before (goal.at.After-first_of-choice c).In-loop-size))
  part-are =
      found-are c.args.question.now _ _ c.requires.1 c.args.left c.requires.0 c.loop-size.size c.subsets_of-found.result c.subsets_of-found.ensures
      ∙ ap (heaviest_first (total (period_at (listed c.args.question.now))) c.args.left) (sym (next (goal.at.After-first_of-choice c).In-loop-size))

  -- None of them can be taken.
  misses : c.first_of-choice.result.set ≡ 0
      → Reached (takeable c.args.question.now c.args.left) (subsets c.args.left (by_periods (listed c.args.question.now))) (beyond (total (period_at (listed c.args.question.now))) c.args.left (c.loop-size.size + 1 - 1)) (c.loop-size.missed + c.first_of-choice.result.considered)
  misses none =
      size-misses c.args.question.now _ _ c.requires.1 c.args.left c.requires.0 _ _ c.loop-size.invariant.1 (below (goal.at.After-first_of-choice c).In-loop-size) part part-are
      c.first_of-choice.result c.first_of-choice.ensures none _ _ (omega (arith, next (goal.at.After-first_of-choice c).In-loop-size)) refl

pub overflow_add-missed : goal.overflow_add-missed
overflow_add-missed c = omega (arith, room (goal.at.overflow_add-missed c).After-first_of-choice)

pub returns-then-choice-ne0 : goal.returns-then-choice-ne0
returns-then-choice-ne0 c =
    size-takes c.args.question.now _ _ c.requires.1 c.args.left c.requires.0 _ _ c.loop-size.invariant.1 (below (goal.at.returns-then-choice-ne0 c).In-loop-size) (part (goal.at.returns-then-choice-ne0 c).After-first_of-choice) (part-are (goal.at.returns-then-choice-ne0 c).After-first_of-choice)
    c.first_of-choice.result c.first_of-choice.ensures c.if-choice-ne0.true _ refl refl refl

pub loop-size-preserved : goal.loop-size-preserved
loop-size-preserved c = (
  omega (arith, below (goal.at.loop-size-preserved c).In-loop-size, next (goal.at.loop-size-preserved c).In-loop-size),
  misses (goal.at.loop-size-preserved c).After-first_of-choice c.if-choice-ne0.false,
)

pub returns-else-alone-ne0 : goal.returns-else-alone-ne0
returns-else-alone-ne0 c =
    search-ends c.args.question.now _ _ c.requires.1 c.args.left c.requires.0 _ _ c.loop-size.invariant.1 (omega (arith, c.loop-size-test.false, c.size-most.ensures)) _ refl refl

pub returns-else-choice-ne0 : goal.returns-else-choice-ne0
returns-else-choice-ne0 c =
    search-ends c.args.question.now _ _ c.requires.1 c.args.left c.requires.0 _ _ (misses (goal.at.returns-else-choice-ne0 c).After-first_of-choice c.if-choice-ne0.false) (omega (arith, c.size-most.ensures)) _ refl refl
