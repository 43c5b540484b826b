-- The utilisation of a set of jobs: what its work covers of every time, and what the set leaves of it. Assumes nothing.
use mathlib.Core.Path.{◌≡◌, refl, sym, ◌∙◌, ap}
use mathlib.Core.List.{List}
use mathlib.Core.Logic.{⊎_elim}
use Prim.Native.Nat.{ℕ, suc, ◌+◌, ◌-◌, ◌*◌, ◌/◌, ◌≤◌, ◌<◌, min}
use native.Mathlib.Nat.{le_refl, le_trans, mul-le-mul, mul-le-mul_left, mul-le-mul_right, div-mul-le_self, div-zero, mul-add, add-mul, mul_comm, mul_assoc, eq-zero-or-pos}
use native.Mathlib.Decide.{dec_le}
use native.Mathlib.Omega.{arith}
use lib.ListN.{length, get_or}
use Rattle.sets.specs.Places.{sum_over}
use Rattle.sets.specs.Sets.{Set}
use Rattle.sets.proofs.Places.{over-same, over-mono, over-scale, over-plus, list_length, list_at}
use Rattle.records.specs.Jobs.{job_at}
use Rattle.records.specs.declared.job.Job.{Job}
use Rattle.response.specs.Demand.{ceil_div, work, interference}
use Rattle.response.proofs.Division.{ceil-covers, ceil-one}
use Rattle.finishes.specs.Finishes.{whole, utilisation, utilisations_of, table_of, load, spare_of, delays_of, carried}

-- Within t a job adds at least its utilisation of t and of its delay.
covers : (job : Job) (t : ℕ) → (t + job.delay) * utilisation job ≤ work job t * whole
unfolding utilisation work
covers job t = ⊎_elim
    (λ (z : job.period ≡ 0). simp (z, div-zero) (omega arith))
    (λ (p : 0 < job.period).
    let u = min (job.cost * whole / job.period) whole in
    let c = ceil_div (t + job.delay) job.period in
    let a : u * job.period ≤ job.cost * whole =
    le_trans (mul-le-mul {m₂ = job.period} (omega arith) (le_refl job.period)) (div-mul-le_self (job.cost * whole) job.period) in
    le_trans (mul-le-mul (ceil-covers (t + job.delay) job.period p) (le_refl u))
    (omega (arith, mul_assoc c job.period u, mul_comm job.period u, mul_assoc c job.cost whole, mul-le-mul_left c a)))
    (eq-zero-or-pos job.period)

load-covered : (jobs : List Job) (a : Set) (t : ℕ) → t * load (utilisations_of jobs) a + delays_of (table_of jobs) a ≤ interference jobs a t * whole
unfolding load delays_of interference
load-covered jobs a t =
    let n = length jobs in
    let u : ℕ → ℕ = λ i. utilisation (job_at jobs i) in
    let late : ℕ → ℕ = λ i. (job_at jobs i).delay * u i in
    let w : ℕ → ℕ = λ i. work (job_at jobs i) t in
    let e : sum_over (length (utilisations_of jobs)) a (λ i. get_or (utilisations_of jobs) i 0) ≡ sum_over n a u =
    ap (λ (m : ℕ). sum_over m a (λ i. get_or (utilisations_of jobs) i 0)) (list_length u n) ∙ over-same n a a _ u (λ i l. refl) (λ i l x. list_at u n i 0 l) in
    let c : sum_over n a (λ i. (job_at jobs i).delay * get_or (utilisations_of jobs) i 0) ≡ sum_over n a late =
    over-same n a a _ late (λ i l. refl) (λ i l x. ap (λ (y : ℕ). (job_at jobs i).delay * y) (list_at u n i 0 l)) in
    let m : sum_over n a (λ i. t * u i + late i) ≤ sum_over n a (λ i. whole * w i) =
    over-mono n a a _ _ (λ i l x. x) (λ i l x. omega (arith, covers (job_at jobs i) t, add-mul t (job_at jobs i).delay (u i))) in
    rw (e, c) (omega (arith, over-plus n a (λ i. t * u i) late, over-scale n t a u, over-scale n whole a w, m))

-- The work within t is at most t + 1 times the work within 1.
pub interference-one : (jobs : List Job) (a : Set) (t : ℕ) → interference jobs a t ≤ suc t * interference jobs a 1
unfolding interference work
interference-one jobs a t =
    let n = length jobs in
    let w : ℕ → ℕ = λ i. work (job_at jobs i) 1 in
    let m : sum_over n a (λ i. work (job_at jobs i) t) ≤ sum_over n a (λ i. suc t * w i) =
    over-mono n a a _ _ (λ i l x. x) (λ i l x. let job = job_at jobs i in
    omega (arith, mul-le-mul_right job.cost (ceil-one t job.delay job.period), mul_assoc (suc t) (ceil_div (1 + job.delay) job.period) job.cost)) in
    omega (arith, over-scale n (suc t) a w)

-- A time x that is some rest and the work of a set within x: what the set leaves of x covers the rest and what the delays carry.
pub leaves : (jobs : List Job) (s : Set) (rest x : ℕ) → x ≡ rest + interference jobs s x → rest * whole + carried (table_of jobs) s ≤ x * spare_of (utilisations_of jobs) s
unfolding spare_of
leaves jobs s rest x e =
    let taken = load (utilisations_of jobs) s in
    elim (dec_le whole taken) [
      | yes h ↦ omega (arith, load-covered jobs s x, mul-le-mul_left x h, e)
      | no h ↦
          let split : x * (whole - taken) + x * taken ≡ x * whole = sym (mul-add x (whole - taken) taken) ∙ ap (λ (y : ℕ). x * y) (omega arith) in
          omega (arith, load-covered jobs s x, split, e)
    ]
