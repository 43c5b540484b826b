use Prim.Native.Nat.{ℕ, suc, ◌+◌, ◌-◌, ◌*◌, ◌<◌, max}
use mathlib.Core.Path.{◌≡◌, sym, ◌∙◌, ap, ap₂}
use mathlib.Core.Logic.{◌≢◌}
use native.Mathlib.Omega.{arith}
use Rattle.sets.specs.Sets.{has}
use Rattle.records.specs.declared.job.Job.{Job}
use Rattle.response.specs.Demand.{most_instances}
use Rattle.finishes.proofs.Climbing.{time-answered}
use Rattle.runs.specs.Runs.{own_demand, finish_by, is_sought, run_by}
use Rattle.runs.proofs.FoundRuns.{turn-none, turn-hit, turn-closed, turn-open, turn-out}
use borrow.Author.Rules.{rules}
use Rattle.runs.proofs.largest_response.Goals as goal
use Rattle.runs.proofs.largest_response.Goals.{After-time_for-finish, After-is_sought}

-- After the search: the finish of the instance.
module _ (c : After-time_for-finish) where
  abbrev job : Job
  job = c.args.job

  abbrev instance : ℕ
  instance = c.loop-instance.instance

  abbrev before : ℕ
  before = c.loop-instance.before

  abbrev finishes : ℕ → ℕ → ℕ
  finishes =
      let a = c.args in
      finish_by a.table (has a.above) a.left.spare a.left.carry a.quantum a.others job.cost job.period job.deadline job.delay

  one_more : instance + 1 ≡ suc instance
  one_more = omega arith

  left : instance < most_instances
  left = omega (arith, c.loop-instance-test.true)

  finish : c.time_for-finish.result ≡ finishes instance before
  unfolding finish_by
  finish =
      let a = c.args in
      let own : c.own_demand-own.result ≡ own_demand a.quantum a.others (suc instance * job.cost) =
      c.own_demand-own.ensures ∙ ap (λ (n : ℕ). own_demand a.quantum a.others (n * job.cost)) one_more in
      time-answered a.table (has a.above) a.left.spare a.left.carry before
      c.time_for-finish.ensures.0 (search rules) own c.saturating_sub-limit.ensures

pub returns-then-finish-eq0 : goal.returns-then-finish-eq0
returns-then-finish-eq0 c =
    let l = c.loop-instance in
    let t = (goal.at.returns-then-finish-eq0 c).After-time_for-finish in
    sym (l.invariant.2 ∙ turn-none (finishes t) (job t).delay (job t).period c.args.sought most_instances l.instance l.before l.largest (left t) (sym (finish t) ∙ c.if-finish-eq0.true))

-- After the test: the response is the definition's, and so is the test.
module _ (c : After-is_sought) where
  abbrev at : After-time_for-finish
  at = (goal.at.After-is_sought c).After-time_for-finish

  found_some : finishes at (instance at) (before at) ≢ 0
  found_some e = c.if-finish-eq0.false (finish at ∙ e)

  hits : c.is_sought.result ≡ is_sought c.args.sought (finishes at (instance at) (before at) + (job at).delay - instance at * (job at).period)
  hits = c.is_sought.ensures ∙ ap (λ (x : ℕ). is_sought c.args.sought (x + (job at).delay - instance at * (job at).period)) (finish at)

pub returns-then-is_sought : goal.returns-then-is_sought
returns-then-is_sought c =
    let l = c.loop-instance in
    let s = (goal.at.returns-then-is_sought c).After-is_sought in
    let t = at s in
    sym (l.invariant.2
    ∙ turn-hit (finishes t) (job t).delay (job t).period c.args.sought most_instances l.instance l.before l.largest (left t) (found_some s) (sym (hits s) ∙ c.if-is_sought.true)
    ∙ sym (one_more t))

pub returns-then-finish-delay : goal.returns-then-finish-delay
returns-then-finish-delay c =
    let l = c.loop-instance in
    let s = (goal.at.returns-then-finish-delay c).After-is_sought in
    let t = at s in
    let J = (job t).delay in
    sym (l.invariant.2
    ∙ turn-closed (finishes t) J (job t).period c.args.sought most_instances l.instance l.before l.largest (left t)
    (found_some s) (sym (hits s) ∙ c.if-is_sought.false) (omega (arith, finish t, c.if-finish-delay.true))
    ∙ ap (λ (x : ℕ). max l.largest (x + J - l.instance * (job t).period)) (sym (finish t)) ∙ sym c.max-largest.ensures)

pub loop-instance-preserved : goal.loop-instance-preserved
loop-instance-preserved c =
    let l = c.loop-instance in
    let s = (goal.at.loop-instance-preserved c).After-is_sought in
    let t = at s in
    let J = (job t).delay in
    let T = (job t).period in
    let f = finishes t in
    let x = c.args.sought in
    let open-ended : suc l.instance * T < f l.instance l.before + J = omega (arith, finish t, c.if-finish-delay.false) in (
      search rules,
      omega (arith, c.if-finish-delay.false),
      l.invariant.2
          ∙ turn-open f J T x most_instances l.instance l.before l.largest (left t) (found_some s) (sym (hits s) ∙ c.if-is_sought.false) open-ended
          ∙ ap (λ (n : ℕ). run_by f J T x (most_instances - n) n (f l.instance l.before) (max l.largest (f l.instance l.before + J - l.instance * T))) (sym (one_more t))
          ∙ ap₂ (run_by f J T x (most_instances - (l.instance + 1)) (l.instance + 1)) (sym (finish t))
          (ap (λ (y : ℕ). max l.largest (y + J - l.instance * T)) (sym (finish t)) ∙ sym c.max-largest.ensures),
    )

pub returns : goal.returns
returns c =
    let l = c.loop-instance in
    let e : most_instances - l.instance ≡ 0 = omega (arith, c.loop-instance-test.false) in
    let a = c.args in
    let f = finish_by a.table (has a.above) a.left.spare a.left.carry a.quantum a.others a.job.cost a.job.period a.job.deadline a.job.delay in
    sym (l.invariant.2 ∙ ap (λ (n : ℕ). run_by f a.job.delay a.job.period a.sought n l.instance l.before l.largest) e ∙ turn-out f a.job.delay a.job.period a.sought l.instance l.before l.largest)
