use Prim.Native.Nat.{ℕ, suc, ◌+◌, ◌-◌, ◌*◌, ◌<◌}
use mathlib.Core.Path.{◌≡◌, ◌∙◌, ap, ap₂}
use mathlib.Core.List.{List}
use native.Mathlib.Omega.{arith}
use Rattle.sets.specs.Sets.{Set, has, join}
use Rattle.records.specs.Jobs.{job_at}
use Rattle.records.specs.declared.job.Job.{Job}
use Rattle.response.specs.Demand.{interference, neighbours, with_neighbours, only, most_instances, second_bound}
use Rattle.response.specs.Breakdown.{reaching, reaching_finish, parts_at, second_parts}
use Rattle.finishes.proofs.Climbing.{work-within}
use Rattle.search.specs.declared.workload.Workload.{Workload}
use Rattle.search.proofs.Deciding.{neighbours-set, with-set, only_set}
use Rattle.parts.proofs.Reached.{count-found, here-within, finish-follows, Found, second-found}
use Rattle.parts.proofs.Layered.second_parts.Goals as goal
use Rattle.parts.proofs.Layered.second_parts.Goals.{After-run-count, After-work_by-above_alone}

-- After the search: the number of instances up to the one that reaches the bound.
module _ (c : After-run-count) where
  abbrev jobs : List Job
  jobs = c.args.self.now.workload.jobs

  abbrev entry : Job
  entry = job_at jobs c.args.self.now.job

  abbrev count : ℕ
  count = c.run-count.result

  -- The neighbours above too.
  abbrev all : Set
  all = with_neighbours (has c.args.self.now.layer) (has c.args.self.now.above) c.args.self.now.job

  abbrev here : ℕ
  here = reaching jobs c.args.self.now.quanta (only c.args.self.now.job) all c.args.self.now.job

  some : 0 < second_bound jobs c.args.self.now.quanta (has c.args.self.now.layer) (has c.args.self.now.above) c.args.self.now.job
  some = omega (arith, c.requires.0, c.requires.1)

  counted : count ≡ suc here
  counted =
      let a = c.args in
      let k = a.self.now.job in
      c.run-count.ensures
      ∙ count-found jobs a.self.now.quanta (only k) all k a.self.now.workload.utilisations (has c.single-alone.result) (has c.join-all.result) (ap (λ (w : Workload). w.utilisations) c.args.self.now.plain)
      (ap has c.single-alone.ensures ∙ only_set k c.args.self.now.placed)
      (ap has (c.join-all.ensures ∙ ap (join a.self.now.above) c.remove-neighbours.ensures) ∙ with-set a.self.now.layer a.self.now.above k c.args.self.now.placed)
      a.bound c.requires.0 c.requires.1

  within : here < most_instances
  within = here-within jobs c.args.self.now.quanta (only c.args.self.now.job) all c.args.self.now.job some

  instance : count - 1 ≡ here
  instance = omega (arith, counted)

  follows : reaching_finish jobs c.args.self.now.quanta (only c.args.self.now.job) all c.args.self.now.job + entry.delay ≡ c.args.bound + (count - 1) * entry.period
  follows = omega (arith, finish-follows jobs c.args.self.now.quanta (only c.args.self.now.job) all c.args.self.now.job some, c.requires.1, ap (λ (n : ℕ). n * entry.period) instance)

pub finish_of-finish-requires : goal.finish_of-finish-requires
finish_of-finish-requires c = (omega (arith, counted (goal.at.finish_of-finish-requires c).After-run-count), omega (arith, counted (goal.at.finish_of-finish-requires c).After-run-count, within (goal.at.finish_of-finish-requires c).After-run-count), omega (arith, follows (goal.at.finish_of-finish-requires c).After-run-count))

-- After the sums: what the neighbours and the jobs above add.
module _ (c : After-work_by-above_alone) where
  found : let a = c.args in
      Found c.work_by-beside.result c.work_by-above_alone.result c.finish_of-finish.result (parts_at (entry (goal.at.After-work_by-above_alone c).After-run-count) (count (goal.at.After-work_by-above_alone c).After-run-count - 1) 2 c.work_by-beside.result c.work_by-above_alone.result)
      (second_parts (jobs (goal.at.After-work_by-above_alone c).After-run-count) a.self.now.quanta (has a.self.now.layer) (has a.self.now.above) a.self.now.job)
  found =
      let a = c.args in
      let s = has a.self.now.layer in
      let o = has a.self.now.above in
      let finish = c.finish_of-finish.result in
      let near = c.finish_of-finish.ensures.1 in
      let beside = c.remove-neighbours in
      let w = second-found (jobs (goal.at.After-work_by-above_alone c).After-run-count) a.self.now.quanta s o a.self.now.job (count (goal.at.After-work_by-above_alone c).After-run-count - 1) finish (some (goal.at.After-work_by-above_alone c).After-run-count) (instance (goal.at.After-work_by-above_alone c).After-run-count) (omega (arith, c.finish_of-finish.ensures.0, follows (goal.at.After-work_by-above_alone c).After-run-count)) in
      let x : c.work_by-beside.result ≡ interference (jobs (goal.at.After-work_by-above_alone c).After-run-count) (neighbours s a.self.now.job) finish =
      c.work_by-beside.ensures ∙ work-within (jobs (goal.at.After-work_by-above_alone c).After-run-count) (has beside.result) finish near
      ∙ ap (λ (t : Set). interference (jobs (goal.at.After-work_by-above_alone c).After-run-count) t finish) (ap has beside.ensures ∙ neighbours-set a.self.now.layer a.self.now.above a.self.now.job c.args.self.now.placed) in
      let y : c.work_by-above_alone.result ≡ interference (jobs (goal.at.After-work_by-above_alone c).After-run-count) o finish = c.work_by-above_alone.ensures ∙ work-within (jobs (goal.at.After-work_by-above_alone c).After-run-count) o finish near in
      record {
        share = omega (arith, x, w.share);
        above = omega (arith, y, w.above);
        same = ap₂ (λ (x y : ℕ). parts_at (entry (goal.at.After-work_by-above_alone c).After-run-count) (count (goal.at.After-work_by-above_alone c).After-run-count - 1) 2 x y) x y ∙ w.same;
      }

pub parts_at-requires : goal.parts_at-requires
parts_at-requires c =
    let w = found (goal.at.parts_at-requires c).After-work_by-above_alone in
    let l = c.finish_of-finish.ensures.1 in
    (omega (arith, counted (goal.at.parts_at-requires c).After-run-count), omega (arith, counted (goal.at.parts_at-requires c).After-run-count, within (goal.at.parts_at-requires c).After-run-count), omega (arith, w.share, l), omega (arith, w.above, l))

pub returns : goal.returns
returns c = c.parts_at.ensures ∙ (found (goal.at.returns c).After-work_by-above_alone).same
