-- The parts of a bound (02, E6, "Where the ticks go"), each read off the run of instances that decides it: "each is what the test
-- defines". Assumes nothing.
use Rattle.std.specs.Prelude.{ℕ, suc, ◌*◌, cond, List, eqb, length}
use Rattle.sets.specs.Sets.{Set}
use Rattle.records.specs.Jobs.{job_at}
use Rattle.records.specs.declared.job.Job.{Job}
use Rattle.response.specs.declared.parts.Parts.{Parts}
use Rattle.response.specs.Demand.{interference, neighbours, layer_share, finish, largest_response, first_bound, with_neighbours, only, bound}

-- "A bound of 0 gives zeros."
abbrev pub no_parts : Parts
no_parts = record { instance = 0; which = 0; own = 0; share = 0; above = 0; delay = 0; taken = 0 }

-- The "own work" of instance j: "(j+1)·C" (E1).
abbrev pub own_work : Job → ℕ → ℕ
own_work job j = suc j * job.cost

-- The parts at instance j of a job, with what its layer and the jobs above add: "J, and the j·T taken off" are the job's.
abbrev pub parts_at : Job → ℕ → ℕ → ℕ → ℕ → Parts
parts_at job j which share above =
    record { instance = j; which = which; own = own_work job j; share = share; above = above; delay = job.delay; taken = j * job.period }

-- The first instance that has the largest response of the run of the job at place k, in a layer with a set above: "the first instance that
-- reaches the bound"; and its finish.
abbrev pub reaching : List Job → List ℕ → Set → Set → ℕ → ℕ
reaching jobs quanta layer above k = (largest_response jobs quanta layer above k).instance

abbrev pub reaching_finish : List Job → List ℕ → Set → Set → ℕ → ℕ
reaching_finish jobs quanta layer above k = finish jobs quanta layer above k (reaching jobs quanta layer above k)

-- The parts of the first bound. The layer share is "all its neighbours add in that bound": the cycles of the own work times the other
-- quanta.
unfoldable pub first_parts : List Job → List ℕ → Set → Set → ℕ → Parts
first_parts jobs quanta layer above k =
    let j = reaching jobs quanta layer above k in
    let end = reaching_finish jobs quanta layer above k in
    parts_at (job_at jobs k) j 1 (layer_share (length jobs) quanta layer k (own_work (job_at jobs k) j)) (interference jobs above end)

-- The parts of the second bound. All that the neighbours add in that bound is their work by the finish; the work from above is that of
-- the jobs above alone.
unfoldable pub second_parts : List Job → List ℕ → Set → Set → ℕ → Parts
second_parts jobs quanta layer above k =
    let j = reaching jobs quanta (only k) (with_neighbours layer above k) k in
    let end = reaching_finish jobs quanta (only k) (with_neighbours layer above k) k in
    parts_at (job_at jobs k) j 2 (interference jobs (neighbours layer k) end) (interference jobs above end)

-- The parts of the bound of the job at place k in a layer with a set above: of the first bound where that is the bound ("1 if equal or
-- for policy 1"), else of the second.
unfoldable pub parts : List Job → List ℕ → Set → Set → ℕ → Parts
parts jobs quanta layer above k =
    cond (eqb (bound jobs quanta layer above k) 0) no_parts
    (cond (eqb (bound jobs quanta layer above k) (first_bound jobs quanta layer above k)) (first_parts jobs quanta layer above k)
    (second_parts jobs quanta layer above k))
