-- The instance that the code finds is the one that decides, and what is found there are the parts. Assumes nothing.
use mathlib.Core.Path.{◌≡◌, sym, ◌∙◌, ap, ap₂}
use mathlib.Core.Bool.{Bool, true, not, ◌&&◌, false≢true}
use mathlib.Core.List.{List}
use Prim.Native.Nat.{ℕ, suc, ◌+◌, ◌*◌, ◌^◌, ◌≤◌, ◌<◌}
use native.Mathlib.Nat.{mul-le-mul}
use native.Mathlib.Decide.{ℕ_discrete}
use native.Mathlib.Omega.{arith}
use lib.ListN.{length, get_or}
use borrow.Author.Tests.{ne_eqb}
use Rattle.sets.specs.Sets.{Set, has, remove, Alone}
use Rattle.sets.proofs.Members.{has-none}
use Rattle.records.specs.Limits.{most_jobs}
use Rattle.records.specs.Jobs.{job_at}
use Rattle.records.specs.declared.job.Job.{Job}
use Rattle.response.specs.Demand.{ceil_div, interference, neighbours, other_quanta, layer_share, demand, most_instances, first_bound, with_neighbours, only, second_bound}
use Rattle.response.specs.declared.parts.Parts.{Parts}
use Rattle.response.specs.Breakdown.{own_work, reaching, reaching_finish, parts_at, first_parts, second_parts}
use Rattle.response.proofs.Breakdown.{bound-reached, bound-end, above_within, neighbours-within}
use Rattle.finishes.specs.Finishes.{utilisations_of, table_of}
use Rattle.runs.specs.Runs.{run_for}
use Rattle.runs.proofs.OneRun.{run-bound, reaching-found}
use Rattle.search.proofs.Deciding.{neighbours-set}

-- So many instances of a 16-bit number fit.
pub instances-fit : (most count x : ℕ) → count ≤ most → x < 2 ^ 16 → count * x ≤ most * 65535
instances-fit most count x hn hx = mul-le-mul {n₂ = most} {m₂ = 65535} hn (omega arith)

-- ---- the instance that reaches one of the two bounds

module _ (jobs : List Job) (q : List ℕ) (s a : Set) (k : ℕ) where
  abbrev job : Job
  job = job_at jobs k

  abbrev here : ℕ
  here = reaching jobs q s a k

  -- What the code finds, from the utilisations of a table, a layer and a set above: the bound, and the number of instances up to it.
  module _ (utilisations : List ℕ) (l rest : Set) (u : utilisations ≡ utilisations_of jobs) (v : l ≡ s) (r : rest ≡ a) where
    abbrev sought-by : ℕ → ℕ
    sought-by bound = run_for (record { jobs = jobs; utilisations = utilisations }) rest (get_or q k 0) (other_quanta (length jobs) q l k) job bound

    told : (bound : ℕ) → sought-by bound ≡ run_for (table_of jobs) a (get_or q k 0) (other_quanta (length jobs) q s k) job bound
    told bound =
        let search : List ℕ → Set → Set → ℕ = λ x m o. run_for (record { jobs = jobs; utilisations = x }) o (get_or q k 0) (other_quanta (length jobs) q m k) job bound in
        ap (λ (x : List ℕ). search x l rest) u ∙ ap₂ (search (utilisations_of jobs)) v r

    pub bound-found : sought-by 0 ≡ first_bound jobs q s a k
    bound-found = told 0 ∙ run-bound jobs q s a k

    pub count-found : (bound : ℕ) → 0 < bound → bound ≡ first_bound jobs q s a k → sought-by bound ≡ suc here
    count-found bound p e =
        told bound ∙ ap (run_for (table_of jobs) a (get_or q k 0) (other_quanta (length jobs) q s k) job) e ∙ reaching-found jobs q s a k (omega arith)

  -- It is one of the instances that count, and its finish follows from the bound.
  pub here-within : 0 < first_bound jobs q s a k → here < most_instances
  here-within b = (bound-reached jobs q s a k b).within

  pub finish-follows : 0 < first_bound jobs q s a k → reaching_finish jobs q s a k + job.delay ≡ first_bound jobs q s a k + here * job.period
  finish-follows b = (bound-end jobs q s a k b).1

-- A job whose layer has no other number is alone in it.
pub no-neighbours : (n layer k : ℕ) → k < most_jobs → remove layer k ≡ 0 → Alone n (has layer) k
no-neighbours n layer k l z i il e = elim (ℕ_discrete i k) [
  | yes g ↦ g
  | no g ↦
      let beside : has (remove layer k) i ≡ true = ap (λ (s : Set). s i) (neighbours-set layer 0 k l) ∙ ap₂ (λ (x y : Bool). x && not y) e (ne_eqb i k g) in
      absurd (false≢true (sym (has-none i) ∙ ap (λ (s : ℕ). has s i) (sym z) ∙ beside))
]

-- ---- the parts there

-- They are the parts, and fit where they are kept: none of them is more than the finish.
pub record Found (beside over finish : ℕ) (made parts : Parts) : Type 0 where
  pub share : beside ≤ finish
  pub above : over ≤ finish
  pub same : made ≡ parts

module _ (jobs : List Job) (q : List ℕ) (s a : Set) (k : ℕ) (instance finish : ℕ) where
  abbrev entry : Job
  entry = job_at jobs k

  pub first_found : 0 < first_bound jobs q s a k → instance ≡ reaching jobs q s a k → finish ≡ reaching_finish jobs q s a k
      → let share = ceil_div (own_work entry instance) (get_or q k 0) * other_quanta (length jobs) q s k in
      Found share (interference jobs a finish) finish (parts_at entry instance 1 share (interference jobs a finish)) (first_parts jobs q s a k)
  unfolding first_parts layer_share demand
  first_found b i l =
      let own = own_work entry instance in
      let share = ceil_div own (get_or q k 0) * other_quanta (length jobs) q s k in
      let total : own + share + interference jobs a finish ≡ finish =
      ap₂ (λ (j t : ℕ). own_work entry j + layer_share (length jobs) q s k (own_work entry j) + interference jobs a t) i l ∙ (bound-end jobs q s a k b).0 ∙ sym l in
      record {
        share = omega (arith, total);
        above = omega (arith, total);
        same = ap₂ (λ (j t : ℕ). parts_at entry j 1 (layer_share (length jobs) q s k (own_work entry j)) (interference jobs a t)) i l;
      }

  pub second-found : 0 < second_bound jobs q s a k → instance ≡ reaching jobs q (only k) (with_neighbours s a k) k → finish ≡ reaching_finish jobs q (only k) (with_neighbours s a k) k
      → Found (interference jobs (neighbours s k) finish) (interference jobs a finish) finish
      (parts_at entry instance 2 (interference jobs (neighbours s k) finish) (interference jobs a finish)) (second_parts jobs q s a k)
  unfolding second_parts demand
  second-found b i l =
      let all = with_neighbours s a k in
      let total : interference jobs all finish ≤ finish = rw l (omega (arith, (bound-end jobs q (only k) all k b).0)) in
      record {
        share = omega (arith, neighbours-within jobs q s a k finish, total);
        above = omega (arith, above_within jobs q s a k finish, total);
        same = ap₂ (λ (j t : ℕ). parts_at entry j 2 (interference jobs (neighbours s k) t) (interference jobs a t)) i l;
      }
