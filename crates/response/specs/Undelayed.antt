-- The bounds without delays: 01's of one instance, E1's of all instances and E2's, the lesser of two. `no-delay` and `one-instance`
-- (proofs) say where the bound is one of them. Assumes nothing.
use Rattle.std.specs.Prelude.{ℕ, suc, ◌+◌, ◌*◌, List, length}
use Rattle.sets.specs.Places.{sum_over}
use Rattle.sets.specs.Sets.{Set}
use Rattle.records.specs.Jobs.{job_at}
use Rattle.records.specs.declared.job.Job.{Job}
use Rattle.response.specs.Demand.{ceil_div, layer_share, least, none, run, most_instances, with_neighbours, only, lesser}

-- "For each job above, t divided by that job's T, rounded up, times that job's C."
unfoldable pub undelayed_interference : List Job → Set → ℕ → ℕ
undelayed_interference jobs above t = sum_over (length jobs) above (λ i. ceil_div t (job_at jobs i).period * (job_at jobs i).cost)

unfoldable pub undelayed_demand : List Job → List ℕ → Set → Set → ℕ → ℕ → ℕ → ℕ
undelayed_demand jobs quanta layer above k own t = own + layer_share (length jobs) quanta layer k own + undelayed_interference jobs above t

-- 01's bound, of one instance: "the least t from 1 to D whose demand equals t. If there is none, the bound is 0."
unfoldable pub one_instance_bound : List Job → List ℕ → Set → Set → ℕ → ℕ
one_instance_bound jobs quanta layer above k = least (undelayed_demand jobs quanta layer above k (job_at jobs k).cost) (job_at jobs k).deadline 1

-- E2's bound over 01's: the lesser of 01's two, in its layer and with the neighbours as if they were above.
abbrev pub one_instance_lesser : List Job → List ℕ → Set → Set → ℕ → ℕ
one_instance_lesser jobs quanta layer above k =
    lesser (one_instance_bound jobs quanta layer above k) (one_instance_bound jobs quanta (only k) (with_neighbours layer above k) k)

-- The finish of instance j (E1), sought up to j·T + D.
unfoldable pub undelayed_finish : List Job → List ℕ → Set → Set → ℕ → ℕ → ℕ
undelayed_finish jobs quanta layer above k j =
    least (undelayed_demand jobs quanta layer above k (suc j * (job_at jobs k).cost)) (j * (job_at jobs k).period + (job_at jobs k).deadline) 1

-- E1's bound: the largest response up to the first instance that finishes by (j+1)·T.
unfoldable pub undelayed_first : List Job → List ℕ → Set → Set → ℕ → ℕ
undelayed_first jobs quanta layer above k = (run (undelayed_finish jobs quanta layer above k) (job_at jobs k).period most_instances 0 none).response

-- E2's bound: the lesser of that and of the one with the neighbours as if they were above.
unfoldable pub undelayed_bound : List Job → List ℕ → Set → Set → ℕ → ℕ
undelayed_bound jobs quanta layer above k =
    lesser (undelayed_first jobs quanta layer above k) (undelayed_first jobs quanta (only k) (with_neighbours layer above k) k)
