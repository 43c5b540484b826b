use mathlib.Core.Path.{◌≡◌, sym, ◌∙◌, ap, ap₂}
use mathlib.Core.Bool.{false≢true}
use mathlib.Core.Logic.{◌≢◌}
use Prim.Native.Nat.{ℕ, ◌<◌}
use native.Mathlib.Omega.{arith}
use borrow.Author.Rules.{rules}
use lib.ListN.{length, get_or}
use Rattle.sets.specs.Sets.{Set, has, join, remove}
use Rattle.records.specs.Limits.{most_jobs}
use Rattle.records.specs.Jobs.{job_at}
use Rattle.response.specs.Demand.{other_quanta, lesser}
use Rattle.runs.specs.Runs.{run_for}
use Rattle.search.specs.Search.{in_table, one_bound, first_decides, bound_by}
use Rattle.search.proofs.Deciding.{with-set, single-removed, only_set, decides-alone}
use Rattle.search.proofs.BothBounds.{by_first, by_both, by-past}
use Rattle.search.proofs.workload.Workload.+bound.Goals as goal
use Rattle.search.proofs.workload.Workload.+bound.Goals.{After-first_decides}

pub returns-then-job-ge-MOST : goal.returns-then-job-ge-MOST
returns-then-job-ge-MOST t c =
    let a = c.args in
    let size : length a.self.jobs ≡ most_jobs = search rules in
    sym (by-past a.self a.quanta _ _ a.job (omega arith))

-- After the test: the first bound and the test are those of the definitions.
module _ (t : ℕ) (c : After-first_decides t) where
  size : length c.args.self.jobs ≡ most_jobs
  size = search rules

  place : c.args.job < most_jobs
  place = omega (arith, c.if-job-ge-MOST.false)

  first : c.run_for-first.result ≡ one_bound c.args.self c.args.quanta (has c.args.layer) (has c.args.above) c.args.job
  first =
      let a = c.args in
      let run : ℕ → ℕ = λ others. run_for (in_table a.self) (has a.above) (get_or a.quanta a.job 0) others (job_at a.self.jobs a.job) a.self.sought in
      let found : c.run_for-first.result ≡ run c.other_quanta-others.result = c.run_for-first.ensures in
      found ∙ ap run (c.other_quanta-others.ensures ∙ ap (λ (n : ℕ). other_quanta n a.quanta (has a.layer) a.job) (sym size))

  decides : c.first_decides.result ≡ first_decides (length c.args.self.jobs) c.args.self.unassignable (has c.args.layer) (has c.args.above) c.args.job
  decides = c.first_decides.ensures ∙ ap (λ (n : ℕ). first_decides n c.args.self.unassignable (has c.args.layer) (has c.args.above) c.args.job) (sym size)

pub returns-then-first_decides : goal.returns-then-first_decides
returns-then-first_decides t c =
    let a = c.args in
    let d = (goal.at.returns-then-first_decides t c).After-first_decides in
    first t d ∙ sym (by_first a.self a.quanta (has a.layer) (has a.above) a.job (sym (decides t d) ∙ c.if-first_decides.true))

pub bound-requires : goal.bound-requires
bound-requires t c =
    let a = c.args in
    let d = (goal.at.bound-requires t c).After-first_decides in
    let some : remove a.layer a.job ≢ 0 =
    λ e. false≢true (sym c.if-first_decides.false ∙ c.first_decides.ensures ∙ decides-alone a.layer a.above a.job (place t d) a.self.unassignable e) in
    (omega (arith, c.decreases, ap (λ (x : ℕ). remove x a.job) c.single-alone.ensures ∙ single-removed a.job (place t d), some), tt)

pub returns : goal.returns
returns t c =
    let a = c.args in
    let d = (goal.at.returns t c).After-first_decides in
    let second : c.bound.result ≡ bound_by a.self a.quanta (has c.single-alone.result) (has c.join-all.result) a.job = c.bound.ensures in
    let found : c.lesser.result ≡ lesser c.run_for-first.result c.bound.result = c.lesser.ensures in
    found
    ∙ ap₂ lesser (first t d)
    (second
    ∙ ap₂ (λ (x y : Set). bound_by a.self a.quanta x y a.job) (ap has c.single-alone.ensures ∙ only_set a.job (place t d))
    (ap has (c.join-all.ensures ∙ ap (join a.above) c.remove.ensures) ∙ with-set a.layer a.above a.job (place t d)))
    ∙ sym (by_both a.self a.quanta (has a.layer) (has a.above) a.job (sym (decides t d) ∙ c.if-first_decides.false))
