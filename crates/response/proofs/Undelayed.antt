-- Where every delay is 0 the bound is E2's, and where the deadline is also up to the period the first of the two is 01's. Assumes nothing.
use mathlib.Core.Path.{◌≡◌, refl, sym, ◌∙◌, ap, ap₂, fun_ext}
use mathlib.Core.List.{List}
use Prim.Native.Nat.{ℕ, zero, suc, ◌+◌, ◌-◌, ◌*◌, ◌≤◌}
use native.Mathlib.Decide.{ℕ_discrete}
use native.Mathlib.Omega.{arith}
use lib.ListN.{length}
use Rattle.sets.specs.Sets.{Set}
use Rattle.sets.proofs.Places.{over-same}
use Rattle.records.specs.Jobs.{job_at, NoDelay}
use Rattle.records.specs.declared.job.Job.{Job}
use Rattle.response.specs.Demand.{ceil_div, work, interference, layer_share, demand, least, finish, plus_delay, Reached, none, larger, response_of, run, most_instances, largest_response, first_bound, with_neighbours, only, lesser, bound}
use Rattle.response.specs.Undelayed.{undelayed_interference, undelayed_demand, one_instance_bound, undelayed_finish, undelayed_first, undelayed_bound}
use Rattle.response.proofs.Least.{least-found}
use Rattle.response.proofs.Runs.{larger-max, run_none, run-closed}

-- ---- no delay

plus-no-delay : (t : ℕ) → plus_delay 0 t ≡ t
plus-no-delay zero = refl
plus-no-delay (suc t) = omega arith

module _ (jobs : List Job) (q : List ℕ) (none-late : NoDelay jobs) where
  interference-undelayed : (a : Set) (t : ℕ) → interference jobs a t ≡ undelayed_interference jobs a t
  unfolding interference work undelayed_interference
  interference-undelayed a t =
      over-same (length jobs) a a _ _ (λ i l. refl)
      (λ i l e. let job = job_at jobs i in ap (λ (x : ℕ). ceil_div x job.period * job.cost) (omega (arith, none-late i)))

  finish-undelayed : (s a : Set) (k j : ℕ) → plus_delay (job_at jobs k).delay (finish jobs q s a k j) ≡ undelayed_finish jobs q s a k j
  unfolding finish undelayed_finish demand undelayed_demand
  finish-undelayed s a k j =
      let job = job_at jobs k in
      let same : (t : ℕ) → demand jobs q s a k (suc j * job.cost) t ≡ undelayed_demand jobs q s a k (suc j * job.cost) t =
      λ t. ap (λ (x : ℕ). suc j * job.cost + layer_share (length jobs) q s k (suc j * job.cost) + x) (interference-undelayed a t) in
      let limit : j * job.period + job.deadline - job.delay ≡ j * job.period + job.deadline = omega (arith, none-late k) in
      ap₂ plus_delay (none-late k) (ap₂ (λ (f : ℕ → ℕ) (d : ℕ). least f d 1) (fun_ext same) limit) ∙ plus-no-delay (undelayed_finish jobs q s a k j)

  pub first-undelayed : (s a : Set) (k : ℕ) → first_bound jobs q s a k ≡ undelayed_first jobs q s a k
  unfolding largest_response undelayed_first
  first-undelayed s a k = ap (λ (f : ℕ → ℕ). (run f (job_at jobs k).period most_instances 0 none).response) (fun_ext (finish-undelayed s a k))

  -- "Old blocks hold 0 there and keep their keys": with every J 0 the bound is E2's.
  pub no-delay : (s a : Set) (k : ℕ) → bound jobs q s a k ≡ undelayed_bound jobs q s a k
  unfolding bound undelayed_bound
  no-delay s a k = ap₂ lesser (first-undelayed s a k) (first-undelayed (only k) (with_neighbours s a k) k)

-- ---- one instance

-- For a deadline up to the period E1's bound is the one of 01.
pub one-instance : (jobs : List Job) (q : List ℕ) (s a : Set) (k : ℕ) → (job_at jobs k).deadline ≤ (job_at jobs k).period
    → undelayed_first jobs q s a k ≡ one_instance_bound jobs q s a k
unfolding undelayed_first undelayed_finish one_instance_bound larger
one-instance jobs q s a k h =
    let job = job_at jobs k in
    let f = undelayed_finish jobs q s a k in
    let own : 1 * job.cost ≡ job.cost = omega arith in
    let limit : 0 * job.period + job.deadline ≡ job.deadline = omega arith in
    let first : f 0 ≡ one_instance_bound jobs q s a k = ap₂ (λ (x d : ℕ). least (undelayed_demand jobs q s a k x) d 1) own limit in
    elim (ℕ_discrete (f 0) 0) [
      | yes z ↦ ap (λ (r : Reached). r.response) (run_none f job.period 63 0 none z) ∙ sym z ∙ first
      | no z ↦
          let w = least-found (undelayed_demand jobs q s a k (1 * job.cost)) (0 * job.period + job.deadline) 1 (omega arith) in
          ap (λ (r : Reached). r.response) (run-closed f job.period 63 0 none z (omega (arith, w.2)))
          ∙ larger-max none (response_of job.period 0 (f 0)) ∙ omega (arith, first)
    ]
