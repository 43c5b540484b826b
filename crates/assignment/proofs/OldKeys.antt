-- Keys that stay: which plans and marks of lists from before a change request are those from before it. Assumes nothing.
use Prim.Native.Nat.{ℕ, ◌≤◌}
use mathlib.Core.Path.{◌≡◌, ◌∙◌, ap, ap₂, fun_ext}
use mathlib.Core.List.{List}
use borrow.Author.Tests.{leb-true}
use Rattle.sets.specs.Sets.{Set}
use Rattle.records.specs.Jobs.{job_at, NoDelay, AcceptedJobs}
use Rattle.records.specs.Ranges.{AcceptedRange}
use Rattle.records.specs.declared.job.Job.{Job}
use Rattle.records.proofs.Reading.{jobs-most, cost-at}
use Rattle.response.specs.Demand.{ResponseTest, first_bound, with_neighbours, only, lesser, bound}
use Rattle.response.specs.Undelayed.{one_instance_bound, one_instance_lesser, undelayed_bound}
use Rattle.response.proofs.Undelayed.{first-undelayed, no-delay, one-instance}
use Rattle.marker.specs.Bounds.{bound_in}
use Rattle.assignment.specs.Plan.{plan_with, plan}
use Rattle.assignment.specs.Keys.{KeysBy}
use Rattle.assignment.proofs.StoredKeys.{keys-stay}

-- Two tests that give the same bounds are one.
same_test : (t u : ResponseTest) → ((quanta : List ℕ) (layer above : Set) (k : ℕ) → t quanta layer above k ≡ u quanta layer above k) → t ≡ u
same_test t u h = fun_ext (λ q. fun_ext (λ s. fun_ext (λ a. fun_ext (h q s a))))

-- "Old blocks hold 0 there and keep their keys" (E4): where every J is 0, plan and marks are those by E2's bound.
pub undelayed-keys : (jobs : List Job) → NoDelay jobs → (low high : ℕ) → KeysBy (undelayed_bound jobs) (undelayed_bound jobs) jobs low high
unfolding plan
undelayed-keys jobs none-late low high =
    let same : bound jobs ≡ undelayed_bound jobs = same_test (bound jobs) (undelayed_bound jobs) (λ q s a k. no-delay jobs q none-late s a k) in
    record {
      plans = ap (λ (t : ResponseTest). plan_with t jobs low high) same;
      marks = ap bound_in same;
    }

-- "Lists with D up to T keep their keys" (E1): where every J is 0 too, the plan is the one by 01's bound of one instance, and the marks
-- are those by the lesser of 01's two bounds (E2).
module _ (jobs : List Job) (ok : AcceptedJobs jobs) (none-late : NoDelay jobs) (within : (k : ℕ) → (job_at jobs k).deadline ≤ (job_at jobs k).period) where
  first-is : (q : List ℕ) (s a : Set) (k : ℕ) → first_bound jobs q s a k ≡ one_instance_bound jobs q s a k
  first-is q s a k = first-undelayed jobs q none-late s a k ∙ one-instance jobs q s a k (within k)

  bound-is : (q : List ℕ) (s a : Set) (k : ℕ) → bound jobs q s a k ≡ one_instance_lesser jobs q s a k
  unfolding bound
  bound-is q s a k = ap₂ lesser (first-is q s a k) (first-is q (only k) (with_neighbours s a k) k)

  pub one-instance-keys : (low high : ℕ) → AcceptedRange low high → KeysBy (one_instance_bound jobs) (one_instance_lesser jobs) jobs low high
  one-instance-keys low high range = record {
    plans =
        keys-stay jobs (λ k l. cost-at jobs ok k l) (jobs-most jobs ok) low high (leb-true 1 low range.0) (leb-true low high range.1.0)
        ∙ ap (λ (t : ResponseTest). plan_with t jobs low high) (same_test (first_bound jobs) (one_instance_bound jobs) first-is);
    marks = ap bound_in (same_test (bound jobs) (one_instance_lesser jobs) bound-is);
  }
