use Prim.Native.Nat.{ℕ}
use mathlib.Core.Path.{◌≡◌, refl, ap, ap₂, ◌∙◌}
use mathlib.Core.List.{List}
use native.Mathlib.Omega.{arith}
use lib.ListN.{length, take}
use lib.Seq.{length-take-le}
use Rattle.sets.specs.Places.{list_of}
use Rattle.records.specs.Limits.{most_jobs}
use Rattle.records.specs.Records.{table}
use Rattle.records.proofs.FixedWidth.{list-next}
use Rattle.records.specs.declared.job.Job.{Job}
use Rattle.response.specs.Breakdown.{no_parts}
use Rattle.search.specs.declared.workload.Workload.{Workload}
use Rattle.parts.specs.Breakdowns.{parts_in}
use Rattle.parts.proofs.Placed.{breakdown-table}
use borrow.Author.Rules.{rules}
use Rattle.parts.proofs.table.breakdown_of.Goals as goal
use Rattle.parts.proofs.table.breakdown_of.Goals.{After-plain-workload}

-- The workload is that of the table.
module _ (c : After-plain-workload) where
  abbrev count : ℕ
  count = c.at_most-count.result

  jobs-are : c.plain-workload.result.jobs ≡ c.args.jobs
  jobs-are = ap (λ (w : Workload). w.jobs) c.plain-workload.ensures

  size : length c.args.jobs ≡ most_jobs
  size = search rules

pub loop-k-init : goal.loop-k-init
unfolding list_of
loop-k-init c = refl

pub loop-k-preserved : goal.loop-k-preserved
loop-k-preserved c =
    let l = c.loop-k in
    list-next (parts_in (take (count (goal.at.loop-k-preserved c).After-plain-workload) c.plain-workload.result.jobs) c.args.settings) most_jobs l.k no_parts l.parts c.parts_in.result (omega (arith, c.at_most-count.ensures)) l.invariant c.parts_in.ensures

pub returns : goal.returns
returns c =
    let l = c.loop-k in
    let a = c.args in
    let cut = c.at_most-count.ensures in
    let e : l.k ≡ length (take (count (goal.at.returns c).After-plain-workload) a.jobs) = omega (arith, length-take-le (count (goal.at.returns c).After-plain-workload) a.jobs (omega (arith, cut, size (goal.at.returns c).After-plain-workload))) in
    l.invariant
    ∙ ap₂ (λ (t : List Job) (k : ℕ). table most_jobs no_parts (list_of (parts_in (take (count (goal.at.returns c).After-plain-workload) t) a.settings) k)) (jobs-are (goal.at.returns c).After-plain-workload) e
    ∙ ap (table most_jobs no_parts) (breakdown-table a.jobs a.settings most_jobs a.n (count (goal.at.returns c).After-plain-workload) (size (goal.at.returns c).After-plain-workload) cut)
