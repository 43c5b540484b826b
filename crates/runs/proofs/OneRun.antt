-- One of the two bounds: the run of instances is found, with the first that reaches its bound, and a layer that asks for more than is spare
-- has none. Assumes nothing.
use mathlib.Core.Path.{◌≡◌, refl, sym, ◌∙◌, ap}
use mathlib.Core.Bool.{Bool, true, false, cond, and-false}
use mathlib.Core.List.{List}
use Prim.Native.Nat.{ℕ, suc, ◌+◌, ◌-◌, ◌*◌, ◌≤◌, ◌<◌}
use native.Mathlib.Nat.{mul-le-mul_left, mul-le-mul_right, mul-lt-mul_of_pos_left, mul-add, mul_comm, mul_assoc}
use native.Mathlib.Decide.{dec_le}
use native.Mathlib.Omega.{arith}
use lib.ListN.{length, get_or}
use borrow.Author.Tests.{lt-ltb, le-ltb}
use Rattle.sets.specs.Sets.{Set}
use Rattle.records.specs.Jobs.{blank_job, job_at}
use Rattle.records.specs.declared.job.Job.{Job}
use Rattle.response.specs.Demand.{ceil_div, interference, other_quanta, layer_share, demand, least, finish, plus_delay, none, most_instances, largest_response, first_bound}
use Rattle.response.specs.Breakdown.{reaching}
use Rattle.response.proofs.Breakdown.{bound-reached}
use Rattle.response.proofs.Division.{ceil-covers, ceil-mono, ceil-le}
use Rattle.response.proofs.Least.{least-found}
use Rattle.response.proofs.Runs.{plus-from, plus-at-least, run-never}
use Rattle.finishes.specs.Finishes.{whole, utilisations_of, table_of, spare_of, carried}
use Rattle.finishes.specs.declared.capacity.Table.{Table}
use Rattle.runs.specs.Runs.{own_demand, finish_by, largest_by, runs_on, run_for, run_bound}
use Rattle.finishes.proofs.Climbing.{Below, below-zero, time-idle}
use Rattle.finishes.proofs.Utilisation.{leaves}
use Rattle.finishes.proofs.OneFinish.{time-least, starts-later, past-none}
use Rattle.runs.proofs.FoundRuns.{run-found, sought-found, turn-none}

-- The own demand of the work of n instances, with c cycles, in parts of a quantum.
own-covers : (n cost quantum others c : ℕ) → n * cost ≤ c * quantum → n * (cost * (quantum + others)) ≤ quantum * (n * cost + c * others)
own-covers n cost quantum others c h =
    let x = n * cost in
    let share : quantum * (c * others) ≡ c * quantum * others = sym (mul_assoc quantum c others) ∙ ap (λ (y : ℕ). y * others) (mul_comm quantum c) in
    omega (
      arith,
      share,
      sym (mul_assoc n cost (quantum + others)),
      mul-add x quantum others,
      mul-add quantum x (c * others),
      mul_comm quantum x,
      mul-le-mul_right others h,
    )

-- n periods do not hold the demand of n instances, if one period does not hold that of one.
exceeds : (n period quantum spare cost rate total own x : ℕ) → 0 < n → period * quantum * spare < cost * rate * total
    → n * (cost * rate) ≤ quantum * own → own * total ≤ x * spare → x ≤ n * period → ⊥
exceeds n period quantum spare cost rate total own x pn h hc hl hx =
    let e1 : quantum * (n * period * spare) ≡ n * (period * quantum * spare) =
    sym (mul_assoc quantum (n * period) spare) ∙ ap (λ (y : ℕ). y * spare) (mul_comm quantum (n * period) ∙ mul_assoc n period quantum)
    ∙ mul_assoc n (period * quantum) spare in
    let e2 : n * (cost * rate * total) ≡ n * (cost * rate) * total = sym (mul_assoc n (cost * rate) total) in
    let e3 : quantum * own * total ≡ quantum * (own * total) = mul_assoc quantum own total in
    let m1 : n * (period * quantum * spare) < n * (cost * rate * total) = mul-lt-mul_of_pos_left h pn in
    let m2 : n * (cost * rate) * total ≤ quantum * own * total = mul-le-mul_right total hc in
    let m3 : quantum * (own * total) ≤ quantum * (x * spare) = mul-le-mul_left quantum hl in
    let m4 : quantum * (x * spare) ≤ quantum * (n * period * spare) = mul-le-mul_left quantum (mul-le-mul_right spare hx) in
    omega arith

module _ (jobs : List Job) (q : List ℕ) (s a : Set) (k : ℕ) where
  abbrev job : Job
  job = job_at jobs k

  abbrev quantum : ℕ
  quantum = get_or q k 0

  abbrev others : ℕ
  others = other_quanta (length jobs) q s k

  abbrev own : ℕ → ℕ
  own j = own_demand quantum others (suc j * job.cost)

  abbrev limit : ℕ → ℕ
  limit j = j * job.period + job.deadline - job.delay

  finish-is : (j : ℕ) → finish jobs q s a k j ≡ least (λ t. own j + interference jobs a t) (limit j) 1
  unfolding finish demand layer_share own_demand
  finish-is j = refl

  -- More own work has no smaller own demand.
  own_mono : (j : ℕ) → own j ≤ own (suc j)
  unfolding own_demand
  own_mono j =
      let more : suc j * job.cost ≤ suc (suc j) * job.cost = mul-le-mul_right job.cost (omega arith) in
      omega (arith, more, mul-le-mul_right others (ceil-mono (suc j * job.cost) (suc (suc j) * job.cost) quantum more))

  -- The finish of an instance as it is found from a time on, and a time from which that of instance j may be sought.
  abbrev found_from : ℕ → ℕ → ℕ
  found_from =
      finish_by (table_of jobs) a (spare_of (utilisations_of jobs) a) (carried (table_of jobs) a) quantum others job.cost job.period job.deadline job.delay

  abbrev MayStart : ℕ → ℕ → Type 0
  MayStart j b = Below (λ t. own j + interference jobs a t) (limit j) b

  starts-at-finish : (j : ℕ) → 0 < finish jobs q s a k j → MayStart (suc j) (finish jobs q s a k j)
  starts-at-finish j p = rw (finish-is j) (starts-later jobs a (own j) (limit j) (own (suc j)) (limit (suc j)) (own_mono j) (rw (finish-is j) at p))

  finish-found : (j b : ℕ) → MayStart j b → found_from j b ≡ finish jobs q s a k j
  unfolding finish_by
  finish-found j b g = time-least jobs a (own j) (limit j) b g ∙ sym (finish-is j)

  pub largest-found : largest_by (table_of jobs) a (spare_of (utilisations_of jobs) a) (carried (table_of jobs) a) quantum others job 0 ≡ first_bound jobs q s a k
  unfolding largest_response
  largest-found = run-found found_from job.delay job.period (finish jobs q s a k) MayStart finish-found starts-at-finish most_instances 0 0 none (below-zero _ _)

  -- The run that is asked for its bound finds the first instance that reaches it.
  sought-instance : 0 < first_bound jobs q s a k
      → largest_by (table_of jobs) a (spare_of (utilisations_of jobs) a) (carried (table_of jobs) a) quantum others job (first_bound jobs q s a k) ≡ suc (reaching jobs q s a k)
  sought-instance b =
      let w = bound-reached jobs q s a k b in
      sought-found found_from job.delay job.period (finish jobs q s a k) MayStart finish-found starts-at-finish (first_bound jobs q s a k) (reaching jobs q s a k) b (sym w.response)
      (λ j l. (plus-from job.delay (finish jobs q s a k j) (w.first j l).0, (w.first j l).1, w.open-ended j l)) most_instances 0 0 0 (below-zero _ _) (omega arith) w.within

  -- A layer that asks for more than is spare: each instance that finishes does so past its next release.
  runs_past : 0 < quantum → job.period * quantum * spare_of (utilisations_of jobs) a < job.cost * (quantum + others) * whole
      → (j : ℕ) → 0 < finish jobs q s a k j → suc j * job.period < finish jobs q s a k j
  unfolding own_demand
  runs_past p h j b =
      let x = least (λ t. own j + interference jobs a t) (limit j) 1 in
      let v = least-found (λ t. own j + interference jobs a t) (limit j) 1 (rw (finish-is j) at b) in
      let n = suc j in
      let c = ceil_div (n * job.cost) quantum in
      rw (finish-is j) (elim (dec_le x (n * job.period)) [
        | no g ↦ omega arith
        | yes g ↦
            absurd (exceeds n job.period quantum (spare_of (utilisations_of jobs) a) job.cost (quantum + others) whole (own j) x (omega arith) h
            (own-covers n job.cost quantum others c (ceil-covers (n * job.cost) quantum p)) (omega (arith, leaves jobs a (own j) x (sym v.0))) g)
      ])

  -- So it has no bound, its delay making each finish later.
  never : 0 < quantum → job.period * quantum * spare_of (utilisations_of jobs) a < job.cost * (quantum + others) * whole → first_bound jobs q s a k ≡ 0
  unfolding largest_response
  never p h =
      run-never (λ j. plus_delay job.delay (finish jobs q s a k j)) job.period
      (λ j b.
      let x = finish jobs q s a k j in
      omega (arith, runs_past p h j (plus-from job.delay x b), plus-at-least job.delay x)) most_instances 0 none

-- ---- each of the two bounds

module _ (spare quantum others : ℕ) (job : Job) where
  runs-idle : quantum ≡ 0 → runs_on spare quantum others job ≡ false
  unfolding runs_on
  runs-idle e = simp (le-ltb 0 quantum (omega arith))

  runs-held : job.cost * (quantum + others) * whole ≤ job.period * quantum * spare → runs_on spare quantum others job ≡ false
  unfolding runs_on
  runs-held h = simp (le-ltb (job.period * quantum * spare) (job.cost * (quantum + others) * whole) h, and-false)

  runs-over : 0 < quantum → job.period * quantum * spare < job.cost * (quantum + others) * whole → runs_on spare quantum others job ≡ true
  unfolding runs_on
  runs-over p h = simp (lt-ltb 0 quantum p, lt-ltb (job.period * quantum * spare) (job.cost * (quantum + others) * whole) h)

module _ (w : Table) (a : Set) (quantum others : ℕ) (job : Job) (sought : ℕ) where
  abbrev on : Bool
  on = runs_on (spare_of w.utilisations a) quantum others job

  abbrev found : ℕ
  found = largest_by w a (spare_of w.utilisations a) (carried w a) quantum others job sought

  pub run-stops : on ≡ true → run_for w a quantum others job sought ≡ 0
  unfolding run_for
  run-stops e = ap (λ (b : Bool). cond b 0 found) e

  pub run-runs : on ≡ false → run_for w a quantum others job sought ≡ found
  unfolding run_for
  run-runs e = ap (λ (b : Bool). cond b 0 found) e

  -- A job without times has no bound.
  pub run-blank : job ≡ blank_job → run_for w a quantum others job sought ≡ 0
  unfolding run_for finish_by own_demand
  run-blank blank = either on (rw blank (turn-none _ 0 0 sought most_instances 0 0 0 (omega arith) never-found))
    where
      either : (b : Bool) {x : ℕ} → x ≡ 0 → cond b 0 x ≡ 0
      either true e = refl
      either false e = e

      never-found : finish_by w a (spare_of w.utilisations a) (carried w a) quantum others 0 0 0 0 0 0 ≡ 0
      never-found =
          let cycles : ceil_div 0 quantum ≡ 0 = let h = ceil-le 0 quantum in omega arith in
          rw cycles (time-idle w a _ _ _ 0 0 (omega arith) ∙ past-none w a _ (omega arith))

-- Each of the two bounds is found, and the first instance that reaches it.
module _ (jobs : List Job) (q : List ℕ) (s a : Set) (k : ℕ) where
  abbrev table : Table
  table = table_of jobs

  abbrev beside : ℕ
  beside = other_quanta (length jobs) q s k

  -- The layer asks for no more than is spare, or it has no bound.
  either_way : (sought : ℕ) {x : ℕ} → largest_by table a (spare_of (utilisations_of jobs) a) (carried table a) (get_or q k 0) beside (job_at jobs k) sought ≡ x
      → (first_bound jobs q s a k ≡ 0 → 0 ≡ x) → run_for table a (get_or q k 0) beside (job_at jobs k) sought ≡ x
  either_way sought e z =
      let n = get_or q k 0 in
      let o = beside in
      let own = job_at jobs k in
      elim (dec_le 1 n) [
        | no h ↦ run-runs table a n o own sought (runs-idle _ n o own (omega arith)) ∙ e
        | yes h ↦ elim (dec_le (own.cost * (n + o) * whole) (own.period * n * spare_of (utilisations_of jobs) a)) [
          | yes l ↦ run-runs table a n o own sought (runs-held _ n o own l) ∙ e
          | no l ↦ run-stops table a n o own sought (runs-over _ n o own h (omega arith)) ∙ z (never jobs q s a k h (omega arith))
        ]
      ]

  pub run-bound : run_bound table a (get_or q k 0) beside (job_at jobs k) ≡ first_bound jobs q s a k
  run-bound = either_way 0 (largest-found jobs q s a k) sym

  pub reaching-found : 0 < first_bound jobs q s a k → run_for table a (get_or q k 0) beside (job_at jobs k) (first_bound jobs q s a k) ≡ suc (reaching jobs q s a k)
  reaching-found b = either_way (first_bound jobs q s a k) (sought-instance jobs q s a k b) (λ z. absurd (omega arith))
