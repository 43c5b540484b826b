use Prim.Native.Nat.{ℕ, ◌≤◌}
use mathlib.Core.Path.{◌≡◌, refl, sym, ap, ◌∙◌}
use mathlib.Core.List.{List}
use native.Mathlib.Omega.{arith}
use lib.ListN.{length, take}
use lib.Seq.{length-take-le}
use Rattle.sets.specs.Sets.{rest}
use Rattle.records.specs.Limits.{most_jobs}
use Rattle.records.specs.declared.job.Job.{Job}
use Rattle.periods.specs.Subsets.{most_of_size}
use Rattle.assignment.specs.Plan.{plan}
use Rattle.planner.proofs.Answering.{plan-made, jobs-are, asks}
use borrow.Author.Rules.{rules}
use Rattle.planner.proofs.table.plan_jobs.Goals as goal
use Rattle.planner.proofs.table.plan_jobs.Goals.{After-subsets_of-alone, Start}

eight : (c : Start) → length c.args.call.jobs.table ≡ most_jobs
eight c = search rules

-- The sets of one job.
module _ (c : After-subsets_of-alone) where
  abbrev count : ℕ
  count = c.subsets_of-alone.result.count

  long : length c.subsets_of-alone.result.sets ≡ most_of_size
  long = search rules

  fits : count ≤ length c.subsets_of-alone.result.sets
  fits = omega (arith, long, c.subsets_of-alone.ensures.few)

pub slice_bounds-singles-end : goal.slice_bounds-singles-end
slice_bounds-singles-end c = fits (goal.at.slice_bounds-singles-end c).After-subsets_of-alone

pub slice_bounds-plan_levels-end : goal.slice_bounds-plan_levels-end
slice_bounds-plan_levels-end c = sym (length-take-le (count (goal.at.slice_bounds-plan_levels-end c).After-subsets_of-alone) c.subsets_of-alone.result.sets (fits (goal.at.slice_bounds-plan_levels-end c).After-subsets_of-alone))

pub returns : goal.returns
returns c =
    let call = c.args.call in
    let jobs = call.jobs.table in
    let n = call.jobs.count in
    let r = c.plan_levels-progress.result in
    let s = (goal.at.returns c).Start in
    let placed = c.rest.ensures ∙ ap (λ (x : ℕ). rest x r.left) c.first_jobs-all.ensures in
    ap (λ (x : ℕ). record { placed = x; considered = r.considered; settings = take n r.settings; bounds = take n r.bounds }) placed
    ∙ plan-made (asks jobs n call.range (eight s) c.requires c.new.result c.new.ensures) refl r c.plan_levels-progress.ensures
    ∙ ap (λ (l : List Job). plan (take n l) call.range.low call.range.high) (jobs-are jobs n call.range (eight s) c.requires c.new.result c.new.ensures)
