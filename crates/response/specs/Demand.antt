-- The response-time test (01, and 02's E1 for deadlines past the period, E2 for the second bound and E4 for delays), from source document
-- 004, section 4.3 and equations (7), (10), (17) and (18). Assumes nothing.
use Rattle.std.specs.Prelude.{ℕ, zero, suc, ◌+◌, ◌*◌, ◌/◌, ◌-◌, min, true, false, not, ◌&&◌, ◌||◌, List, eqb, leb, ltb, length, get_or}
use Rattle.sets.specs.Places.{sum_over}
use Rattle.sets.specs.Sets.{Set}
use Rattle.records.specs.Jobs.{job_at}
use Rattle.records.specs.declared.job.Job.{Job}

-- x divided by y, rounded up; 0 where y is 0.
unfoldable pub ceil_div : ℕ → ℕ → ℕ
ceil_div x y = (x + (y - 1)) / y

-- The work that a job above adds within t ticks: "t + J divided by its T, rounded up", times its C.
unfoldable pub work : Job → ℕ → ℕ
work job t = ceil_div (t + job.delay) job.period * job.cost

-- The interference: "for each job above", its work.
unfoldable pub interference : List Job → Set → ℕ → ℕ
interference jobs above t = sum_over (length jobs) above (λ i. work (job_at jobs i) t)

-- The neighbours of the job at place k: the other jobs of its layer.
abbrev pub neighbours : Set → ℕ → Set
neighbours layer k i = layer i && not (eqb i k)

-- "The sum of the other quanta" in the layer of the job at place k; n is the number of jobs.
unfoldable pub other_quanta : ℕ → List ℕ → Set → ℕ → ℕ
other_quanta n quanta layer k = sum_over n (neighbours layer k) (λ i. get_or quanta i 0)

-- What the layer adds for so much own work: "the cycles", own work "divided by its quantum and rounded up, times the sum of the other
-- quanta". A job alone on its level has no other quanta, so this is "0 for policy 1".
unfoldable pub layer_share : ℕ → List ℕ → Set → ℕ → ℕ → ℕ
layer_share n quanta layer k own = ceil_div own (get_or quanta k 0) * other_quanta n quanta layer k

-- The demand on the job at place k at time t for so much own work: the own work, its layer's share for it and the interference.
unfoldable pub demand : List Job → List ℕ → Set → Set → ℕ → ℕ → ℕ → ℕ
demand jobs quanta layer above k own t = own + layer_share (length jobs) quanta layer k own + interference jobs above t

-- Of n times from t on, the least that equals its demand f; 0 where there is none.
unfoldable pub least : (ℕ → ℕ) → ℕ → ℕ → ℕ
least f zero t = 0
least f (suc n) t = elim (eqb (f t) t) [ true ↦ t | false ↦ least f n (suc t) ]

-- ---- instances (E1)

-- The finish of instance j: "Instance j (from 0) has own work (j+1)·C, its cycles are taken of that work, and its finish is the least t
-- that equals its demand." It is sought up to j·T + D - J: after a later one the response exceeds D. 0 where there is none.
unfoldable pub finish : List Job → List ℕ → Set → Set → ℕ → ℕ → ℕ
finish jobs quanta layer above k j =
    let job = job_at jobs k in
    least (demand jobs quanta layer above k (suc j * job.cost)) (j * job.period + job.deadline - job.delay) 1

-- "Its finish plus J" (E4); 0 where there is no finish.
abbrev pub plus_delay : ℕ → ℕ → ℕ
plus_delay delay zero = 0
plus_delay delay (suc t) = suc t + delay

-- A response and the instance that has it.
pub record Reached : Type 0 where
  pub response : ℕ
  pub instance : ℕ

-- No response.
abbrev pub none : Reached
none = record { response = 0; instance = 0 }

-- The larger response of an earlier instance and a later one; the earlier instance's where they are equal.
unfoldable pub larger : Reached → Reached → Reached
larger earlier later = elim (ltb earlier.response later.response) [ true ↦ later | false ↦ earlier ]

-- "Its response is that finish less j·T", and it gains J: the finish here is the finish plus J.
abbrev pub response_of : ℕ → ℕ → ℕ → Reached
response_of period j finish = record { response = finish - j * period; instance = j }

-- The run of a job's instances, the field's busy period: the largest response "up to the first instance that finishes by (j+1)·T", among n
-- instances from j on and the largest of those before; none where a finish does not exist in reach or the last of the n instances still runs past its (j+1)·T. Each finish is one plus J: "an
-- instance closes the run when its finish plus J is by (j+1)·T", and "instance 63 counts as running past 64·T when its finish plus J does".
unfoldable pub run : (ℕ → ℕ) → ℕ → ℕ → ℕ → Reached → Reached
run finishes period zero j before = none
run finishes period (suc n) j before = elim (eqb (finishes j) 0) [
  | true ↦ none
  | false ↦ elim (leb (finishes j) (suc j * period)) [
    | true ↦ larger before (response_of period j (finishes j))
    | false ↦ run finishes period n (suc j) (larger before (response_of period j (finishes j)))
  ]
]

-- "Instance 63 is reached and still runs past 64·T": instances 0 to 63 count.
abbrev pub most_instances : ℕ
most_instances = 64

-- The largest response of the job at place k in a layer with a set above, and the first instance that reaches it.
unfoldable pub largest_response : List Job → List ℕ → Set → Set → ℕ → Reached
largest_response jobs quanta layer above k =
    run (λ j. plus_delay (job_at jobs k).delay (finish jobs quanta layer above k j)) (job_at jobs k).period most_instances 0 none

-- ---- two bounds (E2)

-- The first bound: the neighbours count by their quanta.
abbrev pub first_bound : List Job → List ℕ → Set → Set → ℕ → ℕ
first_bound jobs quanta layer above k = (largest_response jobs quanta layer above k).response

-- The set above, with "every other job of its layer as if it were above".
abbrev pub with_neighbours : Set → Set → ℕ → Set
with_neighbours layer above k i = above i || neighbours layer k i

-- The layer of the job at place k without its neighbours.
abbrev pub only : ℕ → Set
only k i = eqb i k

-- The "second bound": the neighbours count as if they were above, so no quanta count.
abbrev pub second_bound : List Job → List ℕ → Set → Set → ℕ → ℕ
second_bound jobs quanta layer above k = (largest_response jobs quanta (only k) (with_neighbours layer above k) k).response

-- "The lesser of the two is the bound, one that is 0 giving way to the other."
abbrev pub lesser : ℕ → ℕ → ℕ
lesser first second = elim (eqb first 0) [ true ↦ second | false ↦ elim (eqb second 0) [ true ↦ first | false ↦ min first second ] ]

-- A response-time test of a list of jobs: the bound that it gives for quanta, a layer, a set above and a place.
abbrev pub ResponseTest : Type 0
ResponseTest = List ℕ → Set → Set → ℕ → ℕ

-- The bound of the job at place k in a layer with a set above: the lesser of its two bounds, each the largest response of a run of its
-- own. A job of policy 1 has no neighbours, so that its two bounds are one.
unfoldable pub bound : List Job → List ℕ → Set → Set → ℕ → ℕ
bound jobs quanta layer above k = lesser (first_bound jobs quanta layer above k) (second_bound jobs quanta layer above k)
