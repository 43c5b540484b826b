-- How the run of a job's instances is found, which is one of the two bounds: each finish is sought from the finish of the instance before.
-- `run-bound` (proofs/OneRun) says that this is the bound, `reaching-found` that the same run, asked for its bound, finds the first instance
-- that reaches it. Assumes nothing.
use Rattle.std.specs.Prelude.{ℕ, zero, suc, ◌+◌, ◌*◌, ◌-◌, max, Bool, cond, ◌&&◌, eqb, leb, ltb}
use Rattle.sets.specs.Sets.{Set}
use Rattle.records.specs.declared.job.Job.{Job}
use Rattle.response.specs.Demand.{ceil_div, most_instances}
use Rattle.finishes.specs.Finishes.{whole, spare_of, carried, time_for}
use Rattle.finishes.specs.declared.capacity.Table.{Table}

-- The own demand of so much own work, with the layer's share for it.
unfoldable pub own_demand : ℕ → ℕ → ℕ → ℕ
own_demand quantum others own = own + ceil_div own quantum * others

-- The finish of instance j of a job with these times as it is found, from a time `before` on.
unfoldable pub finish_by : Table → Set → ℕ → ℕ → ℕ → ℕ → ℕ → ℕ → ℕ → ℕ → ℕ → ℕ → ℕ
finish_by table above spare carry quantum others cost period deadline delay j before =
    time_for table above spare carry (own_demand quantum others (suc j * cost)) (j * period + deadline - delay) before

-- A response is the one that is sought; none is, where that is 0.
abbrev pub is_sought : ℕ → ℕ → Bool
is_sought sought response = ltb 0 sought && eqb response sought

-- The largest response as it is found: each finish is sought from the finish of the instance before. Where a response is sought, the number
-- of instances up to the first that has it.
unfoldable pub run_by : (ℕ → ℕ → ℕ) → ℕ → ℕ → ℕ → ℕ → ℕ → ℕ → ℕ → ℕ
run_by finishes delay period sought zero j before largest = 0
run_by finishes delay period sought (suc n) j before largest =
    cond (eqb (finishes j before) 0) 0
    (cond (is_sought sought (finishes j before + delay - j * period)) (suc j)
    (cond (leb (finishes j before + delay) (suc j * period)) (max largest (finishes j before + delay - j * period))
    (run_by finishes delay period sought n (suc j) (finishes j before) (max largest (finishes j before + delay - j * period)))))

-- The largest response of a job beside the set above, or the number of its instances up to the first that has the response that is sought.
abbrev pub largest_by : Table → Set → ℕ → ℕ → ℕ → ℕ → Job → ℕ → ℕ
largest_by table above spare carry quantum others job sought =
    run_by (finish_by table above spare carry quantum others job.cost job.period job.deadline job.delay) job.delay job.period sought most_instances
    0 0 0

-- The layer asks for more than is spare of the processor: within each period a job needs its cost and the layer's share for it, at least
-- cost · (quantum + others) / quantum. Then no instance finishes by its next release.
unfoldable pub runs_on : ℕ → ℕ → ℕ → Job → Bool
runs_on spare quantum others job = ltb 0 quantum && ltb (job.period * quantum * spare) (job.cost * (quantum + others) * whole)

-- The run as it is found, beside a sum of other quanta and below a set.
unfoldable pub run_for : Table → Set → ℕ → ℕ → Job → ℕ → ℕ
run_for table above quantum others job sought =
    let spare = spare_of table.utilisations above in
    cond (runs_on spare quantum others job) 0 (largest_by table above spare (carried table above) quantum others job sought)

-- One of the two bounds as it is found: no response is sought.
abbrev pub run_bound : Table → Set → ℕ → ℕ → Job → ℕ
run_bound table above quantum others job = run_for table above quantum others job 0
