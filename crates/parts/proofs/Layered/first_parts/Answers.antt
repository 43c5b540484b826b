use Prim.Native.Nat.{ℕ, suc, ◌+◌, ◌-◌, ◌*◌, ◌<◌}
use mathlib.Core.Path.{◌≡◌, refl, sym, ◌∙◌, ap, ap₂}
use mathlib.Core.List.{List}
use native.Mathlib.Omega.{arith}
use lib.ListN.{length, get_or}
use borrow.Author.Rules.{rules}
use Rattle.sets.specs.Sets.{has}
use Rattle.records.specs.Limits.{most_jobs}
use Rattle.records.specs.Jobs.{job_at}
use Rattle.records.specs.declared.job.Job.{Job}
use Rattle.response.specs.Demand.{ceil_div, other_quanta, interference, most_instances, first_bound}
use Rattle.response.specs.Breakdown.{reaching, reaching_finish, parts_at, first_parts}
use Rattle.finishes.proofs.Climbing.{work-within}
use Rattle.search.specs.declared.workload.Workload.{Workload}
use Rattle.parts.proofs.Reached.{count-found, here-within, finish-follows, Found, first_found}
use Rattle.parts.proofs.Layered.first_parts.Goals as goal
use Rattle.parts.proofs.Layered.first_parts.Goals.{After-run-count, After-work_by-from_above}

-- After the search: the number of instances up to the one that reaches the bound.
module _ (c : After-run-count) where
  abbrev jobs : List Job
  jobs = c.args.self.now.workload.jobs

  abbrev entry : Job
  entry = job_at jobs c.args.self.now.job

  abbrev quantum : ℕ
  quantum = get_or c.args.self.now.quanta c.args.self.now.job 0

  abbrev count : ℕ
  count = c.run-count.result

  abbrev here : ℕ
  here = reaching jobs c.args.self.now.quanta (has c.args.self.now.layer) (has c.args.self.now.above) c.args.self.now.job

  some : 0 < first_bound jobs c.args.self.now.quanta (has c.args.self.now.layer) (has c.args.self.now.above) c.args.self.now.job
  some = omega (arith, c.requires.0, c.requires.1)

  others : c.other_quanta-others.result ≡ other_quanta (length jobs) c.args.self.now.quanta (has c.args.self.now.layer) c.args.self.now.job
  others =
      let a = c.args in
      let eight : length jobs ≡ most_jobs = search rules in
      c.other_quanta-others.ensures ∙ ap (λ (n : ℕ). other_quanta n a.self.now.quanta (has a.self.now.layer) a.self.now.job) (sym eight)

  counted : count ≡ suc here
  counted =
      let a = c.args in
      c.run-count.ensures
      ∙ count-found jobs a.self.now.quanta (has a.self.now.layer) (has a.self.now.above) a.self.now.job a.self.now.workload.utilisations (has a.self.now.layer) (has a.self.now.above) (ap (λ (w : Workload). w.utilisations) c.args.self.now.plain) refl refl
      a.bound c.requires.0 c.requires.1

  within : here < most_instances
  within = here-within jobs c.args.self.now.quanta (has c.args.self.now.layer) (has c.args.self.now.above) c.args.self.now.job some

  instance : count - 1 ≡ here
  instance = omega (arith, counted)

  follows : reaching_finish jobs c.args.self.now.quanta (has c.args.self.now.layer) (has c.args.self.now.above) c.args.self.now.job + entry.delay ≡ c.args.bound + (count - 1) * entry.period
  follows = omega (arith, finish-follows jobs c.args.self.now.quanta (has c.args.self.now.layer) (has c.args.self.now.above) c.args.self.now.job some, c.requires.1, ap (λ (n : ℕ). n * entry.period) instance)

pub finish_of-finish-requires : goal.finish_of-finish-requires
finish_of-finish-requires c = (omega (arith, counted (goal.at.finish_of-finish-requires c).After-run-count), omega (arith, counted (goal.at.finish_of-finish-requires c).After-run-count, within (goal.at.finish_of-finish-requires c).After-run-count), omega (arith, follows (goal.at.finish_of-finish-requires c).After-run-count))

-- After the sums: what the layer and the jobs above add.
module _ (c : After-work_by-from_above) where
  abbrev share : ℕ
  share = c.layer_share-share.result

  found : let a = c.args in
      Found share c.work_by-from_above.result c.finish_of-finish.result (parts_at (entry (goal.at.After-work_by-from_above c).After-run-count) (count (goal.at.After-work_by-from_above c).After-run-count - 1) 1 share c.work_by-from_above.result) (first_parts (jobs (goal.at.After-work_by-from_above c).After-run-count) a.self.now.quanta (has a.self.now.layer) (has a.self.now.above) a.self.now.job)
  found =
      let a = c.args in
      let o = has a.self.now.above in
      let finish = c.finish_of-finish.result in
      let w = first_found (jobs (goal.at.After-work_by-from_above c).After-run-count) a.self.now.quanta (has a.self.now.layer) o a.self.now.job (count (goal.at.After-work_by-from_above c).After-run-count - 1) finish (some (goal.at.After-work_by-from_above c).After-run-count) (instance (goal.at.After-work_by-from_above c).After-run-count) (omega (arith, c.finish_of-finish.ensures.0, follows (goal.at.After-work_by-from_above c).After-run-count)) in
      let one : count (goal.at.After-work_by-from_above c).After-run-count ≡ suc (count (goal.at.After-work_by-from_above c).After-run-count - 1) = omega (arith, counted (goal.at.After-work_by-from_above c).After-run-count) in
      let x : share ≡ ceil_div (suc (count (goal.at.After-work_by-from_above c).After-run-count - 1) * (entry (goal.at.After-work_by-from_above c).After-run-count).cost) (quantum (goal.at.After-work_by-from_above c).After-run-count) * other_quanta (length (jobs (goal.at.After-work_by-from_above c).After-run-count)) a.self.now.quanta (has a.self.now.layer) a.self.now.job =
      c.layer_share-share.ensures.0 ∙ ap₂ (λ (n y : ℕ). ceil_div (n * (entry (goal.at.After-work_by-from_above c).After-run-count).cost) (quantum (goal.at.After-work_by-from_above c).After-run-count) * y) one (others (goal.at.After-work_by-from_above c).After-run-count) in
      let y : c.work_by-from_above.result ≡ interference (jobs (goal.at.After-work_by-from_above c).After-run-count) o finish = c.work_by-from_above.ensures ∙ work-within (jobs (goal.at.After-work_by-from_above c).After-run-count) o finish c.finish_of-finish.ensures.1 in
      record {
        share = omega (arith, x, w.share);
        above = omega (arith, y, w.above);
        same = ap₂ (λ (x y : ℕ). parts_at (entry (goal.at.After-work_by-from_above c).After-run-count) (count (goal.at.After-work_by-from_above c).After-run-count - 1) 1 x y) x y ∙ w.same;
      }

pub parts_at-requires : goal.parts_at-requires
parts_at-requires c =
    let w = found (goal.at.parts_at-requires c).After-work_by-from_above in
    let l = c.finish_of-finish.ensures.1 in
    (omega (arith, counted (goal.at.parts_at-requires c).After-run-count), omega (arith, counted (goal.at.parts_at-requires c).After-run-count, within (goal.at.parts_at-requires c).After-run-count), omega (arith, w.share, l), omega (arith, w.above, l))

pub returns : goal.returns
returns c = c.parts_at.ensures ∙ (found (goal.at.returns c).After-work_by-from_above).same
