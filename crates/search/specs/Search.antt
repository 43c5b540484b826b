-- How the code finds a bound: each of the two bounds by its run, and the second only where it is not known to be 0 or the first.
-- `bound-found` (proofs/BothBounds) says that this is the bound. Assumes nothing.
use Rattle.std.specs.Prelude.{ℕ, zero, suc, Bool, cond, not, ◌&&◌, ◌||◌, List, eqb, ltb, length, get_or}
use Rattle.sets.specs.Places.{every, list_of}
use Rattle.sets.specs.Sets.{Set, has, single, remove, first_jobs}
use Rattle.records.specs.Limits.{most_jobs}
use Rattle.records.specs.Jobs.{job_at}
use Rattle.records.specs.declared.job.Job.{Job}
use Rattle.response.specs.Demand.{neighbours, other_quanta, with_neighbours, only, lesser}
use Rattle.finishes.specs.Finishes.{utilisations_of}
use Rattle.finishes.specs.declared.capacity.Table.{Table}
use Rattle.runs.specs.Runs.{run_for}
use Rattle.search.specs.declared.workload.Workload.{Workload}

-- ---- both bounds

abbrev pub in_table : Workload → Table
in_table workload = record { jobs = workload.jobs; utilisations = workload.utilisations }

-- One of the two bounds of the job at place k in a layer; where a response is sought, the number of its instances up to the first that has
-- it.
abbrev pub one_bound : Workload → List ℕ → Set → Set → ℕ → ℕ
one_bound workload quanta layer above k =
    run_for (in_table workload) above (get_or quanta k 0) (other_quanta (length workload.jobs) quanta layer k) (job_at workload.jobs k) workload.sought

-- The first bound of a job among n is the bound: the job has no neighbours, or it is one of the jobs that are unassignable and the others of
-- them are above it or its neighbours.
unfoldable pub first_decides : ℕ → ℕ → Set → Set → ℕ → Bool
first_decides n unassignable layer above k =
    every (λ i. not (neighbours layer k i)) n
    || (has unassignable k && every (λ i. not (has (remove unassignable k) i) || with_neighbours layer above k i) n)

-- The bound as it is found.
unfoldable pub bound_by : Workload → List ℕ → Set → Set → ℕ → ℕ
bound_by workload quanta layer above k =
    cond (first_decides (length workload.jobs) workload.unassignable layer above k) (one_bound workload quanta layer above k)
    (lesser (one_bound workload quanta layer above k) (one_bound workload quanta (only k) (with_neighbours layer above k) k))

-- ---- the jobs that are unassignable

-- The jobs of a table with their utilisations, no job known to be unassignable.
abbrev pub plain_workload : List Job → Workload
plain_workload jobs = record { jobs = jobs; utilisations = utilisations_of jobs; unassignable = 0; sought = 0 }

-- A job alone in its layer has no quantum.
abbrev pub no_quanta : List ℕ
no_quanta = list_of (λ i. 0) most_jobs

-- The job at place k is no unassignable job of a set: it has no cost, or it is served alone below the others of the set.
unfoldable pub drops : Workload → ℕ → ℕ → Bool
drops workload set k =
    has set k
    && (eqb (job_at workload.jobs k).cost 0 || ltb 0 (bound_by workload no_quanta (has (single k)) (has (remove set k)) k))

-- The set without the jobs of its first n places that are dropped, the last of them first.
unfoldable pub drop_from : (ℕ → ℕ → Bool) → ℕ → ℕ → ℕ
drop_from drops zero set = set
drop_from drops (suc n) set = drop_from drops n (cond (drops set n) (remove set n) set)

-- The same again and again until no job is dropped, n times at most; then the empty set.
unfoldable pub drop_again : (ℕ → ℕ → Bool) → ℕ → ℕ → ℕ
drop_again drops zero set = 0
drop_again drops (suc n) set = cond (eqb (drop_from drops most_jobs set) set) set (drop_again drops n (drop_from drops most_jobs set))

-- Enough rounds: each but the last drops a job.
abbrev pub rounds : ℕ
rounds = 9

-- The unassignable jobs: none of them is served alone below the others, so no assignment of levels to single jobs can place one of them
-- before the others of them are placed.
abbrev pub unassignable_of : Workload → ℕ
unassignable_of workload = drop_again (drops workload) rounds (first_jobs most_jobs)

-- The jobs of a table with the utilisation of each, and those that are unassignable.
abbrev pub workload : List Job → Workload
workload jobs = record { jobs = jobs; utilisations = utilisations_of jobs; unassignable = unassignable_of (plain_workload jobs); sought = 0 }
