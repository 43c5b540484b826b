-- Both bounds: what the code finds is the bound, of each job whose second bound it leaves out too. Assumes nothing.
use mathlib.Core.Path.{◌≡◌, refl, sym, ◌∙◌, ap, ap₂}
use mathlib.Core.Bool.{Bool, true, false, cond, ◌&&◌, ◌||◌, and-eq-true_iff, false≢true}
use mathlib.Core.List.{List}
use mathlib.Core.Logic.{⊎_elim}
use Prim.Native.Nat.{ℕ, ◌^◌, ◌≤◌, ◌<◌}
use native.Mathlib.Decide.{dec_le}
use native.Mathlib.Omega.{arith}
use lib.Dec.{eqb, ltb}
use lib.ListN.{length, get_or, get_or-eq_default}
use borrow.Author.Tests.{lt-ltb, eqb-true, eqb-false}
use Rattle.sets.specs.Sets.{Set, places, has, single, remove, first_jobs, Alone}
use Rattle.sets.proofs.Members.{has-none, has-single, member-lt}
use Rattle.records.specs.Limits.{most_jobs}
use Rattle.records.specs.Jobs.{blank_job, job_at}
use Rattle.records.specs.declared.job.Job.{Job}
use Rattle.response.specs.Demand.{other_quanta, with_neighbours, only, second_bound, lesser, bound}
use Rattle.response.proofs.Lesser.{lesser-second}
use Rattle.response.proofs.Easier.{easier, lighter-drop, first_alone, second-alone, second_none}
use Rattle.finishes.specs.Finishes.{utilisations_of}
use Rattle.search.specs.Search.{in_table, one_bound, first_decides, bound_by, no_quanta, plain_workload, drops, rounds, unassignable_of, workload}
use Rattle.search.specs.declared.workload.Workload.{Workload}
use Rattle.runs.proofs.OneRun.{run-blank, run-bound}
use Rattle.search.proofs.Dropping.{again-lt, none_dropped}
use Rattle.search.proofs.Deciding.{Covered, decided, only-decides, decides-single}

-- What is found is the bound, if a job that is covered has no second bound.
found-by : (jobs : List Job) (unassignable : ℕ) (q : List ℕ) (s a : Set) (k : ℕ)
    → (Covered (length jobs) unassignable s a k → second_bound jobs q s a k ≡ 0)
    → bound_by (record { jobs = jobs; utilisations = utilisations_of jobs; unassignable = unassignable; sought = 0 }) q s a k ≡ bound jobs q s a k
unfolding bound_by bound
found-by jobs unassignable q s a k none = go (first_decides (length jobs) unassignable s a k) refl
  where
    go : (b : Bool) → first_decides (length jobs) unassignable s a k ≡ b
        → cond b (one_bound (record { jobs = jobs; utilisations = utilisations_of jobs; unassignable = unassignable; sought = 0 }) q s a k)
        (lesser (one_bound (record { jobs = jobs; utilisations = utilisations_of jobs; unassignable = unassignable; sought = 0 }) q s a k)
        (one_bound (record { jobs = jobs; utilisations = utilisations_of jobs; unassignable = unassignable; sought = 0 }) q (only k) (with_neighbours s a k) k))
        ≡ bound jobs q s a k
    go true e =
        run-bound jobs q s a k
        ∙ sym (⊎_elim (λ x. first_alone jobs k q s a x) (λ x. second_none jobs k q s a (none x)) (decided (length jobs) unassignable s a k e))
    go false e = ap₂ lesser (run-bound jobs q s a k) (run-bound jobs q (only k) (with_neighbours s a k) k)

pub bound-plain : (jobs : List Job) (q : List ℕ) (s a : Set) (k : ℕ) → bound_by (plain_workload jobs) q s a k ≡ bound jobs q s a k
bound-plain jobs q s a k = found-by jobs 0 q s a k (λ c. absurd (false≢true (sym (has-none k) ∙ c.one)))

-- ---- a job that is unassignable has no second bound

module _ (jobs : List Job) where
  abbrev unassignable : ℕ
  unassignable = unassignable_of (plain_workload jobs)

  dropped-in : (s k : ℕ) → drops (plain_workload jobs) s k ≡ true → has s k ≡ true
  unfolding drops
  dropped-in s k e = ((and-eq-true_iff (has s k) _).0 e).0

  -- It has a cost, and no bound alone below the others.
  alone-none : (k : ℕ) → has unassignable k ≡ true → (0 < (job_at jobs k).cost) × (bound jobs no_quanta (has (single k)) (has (remove unassignable k)) k ≡ 0) × (k < most_jobs)
  unfolding drops
  alone-none k e =
      let l : k < most_jobs = member-lt most_jobs unassignable k (again-lt (drops (plain_workload jobs)) dropped-in rounds (first_jobs most_jobs) few) e in
      let x = bound_by (plain_workload jobs) no_quanta (has (single k)) (has (remove unassignable k)) k in
      let kept = sym (ap (λ (b : Bool). b && (eqb (job_at jobs k).cost 0 || ltb 0 x)) e) ∙ none_dropped (drops (plain_workload jobs)) dropped-in rounds (first_jobs most_jobs) k l in
      let w = neither (eqb (job_at jobs k).cost 0) (ltb 0 x) kept in
      (omega (arith, eqb-false (job_at jobs k).cost 0 w.0), sym (bound-plain jobs no_quanta (has (single k)) (has (remove unassignable k)) k) ∙ zero_of x w.1, l)
    where
      few : first_jobs most_jobs < 2 ^ places
      few = unfold first_jobs in omega arith

      neither : (a b : Bool) → (a || b) ≡ false → (a ≡ false) × (b ≡ false)
      neither true b e = absurd (false≢true (sym e))
      neither false b e = (refl, e)

      zero_of : (x : ℕ) → ltb 0 x ≡ false → x ≡ 0
      zero_of x e = elim (dec_le x 0) [ yes h ↦ omega arith | no h ↦ absurd (false≢true (sym e ∙ lt-ltb 0 x (omega arith))) ]

  unassignable-none : (q : List ℕ) (s a : Set) (k : ℕ) → Covered (length jobs) unassignable s a k → second_bound jobs q s a k ≡ 0
  unassignable-none q s a k c =
      let w = alone-none k c.one in
      let own = has (single k) in
      let alone : Alone (length jobs) own k = λ i il e. sym (eqb-true k i (sym (has-single k i w.2) ∙ e)) in
      let here = with_neighbours s a k in
      second-alone jobs k q no_quanta s own a alone
      ∙ elim (dec_le (bound jobs no_quanta own here k) 0) [
        | yes h ↦ omega arith
        | no h ↦ absurd (omega (
          arith,
          w.1,
          easier jobs k no_quanta no_quanta own own here (has (remove unassignable k)) w.0
              (lighter-drop (length jobs) k no_quanta own own (λ i il e. e)) (λ i il e. e) c.others (omega arith),
        ))
      ]

-- What the code finds is the bound.
pub bound-found : (jobs : List Job) (q : List ℕ) (s a : Set) (k : ℕ) → bound_by (workload jobs) q s a k ≡ bound jobs q s a k
bound-found jobs q s a k = found-by jobs (unassignable_of (plain_workload jobs)) q s a k (unassignable-none jobs q s a k)

-- ---- how the code finds it

module _ (w : Workload) (q : List ℕ) (s a : Set) (k : ℕ) where
  abbrev decides : Bool
  decides = first_decides (length w.jobs) w.unassignable s a k

  pub by_first : decides ≡ true → bound_by w q s a k ≡ one_bound w q s a k
  unfolding bound_by
  by_first e = ap (λ (b : Bool). cond b (one_bound w q s a k) (lesser (one_bound w q s a k) (one_bound w q (only k) (with_neighbours s a k) k))) e

  -- A place past the table has no job, and no bound.
  one-past : length w.jobs ≤ k → (t r : Set) → one_bound w q t r k ≡ 0
  one-past l t r = run-blank (in_table w) r (get_or q k 0) (other_quanta (length w.jobs) q t k) (job_at w.jobs k) w.sought (get_or-eq_default w.jobs blank_job l)

  pub by-past : length w.jobs ≤ k → bound_by w q s a k ≡ 0
  unfolding bound_by
  by-past l = go (first_decides (length w.jobs) w.unassignable s a k)
    where
      go : (b : Bool) → cond b (one_bound w q s a k) (lesser (one_bound w q s a k) (one_bound w q (only k) (with_neighbours s a k) k)) ≡ 0
      go true = one-past l s a
      go false = lesser-second (one_bound w q s a k) _ (one-past l s a) ∙ one-past l (only k) (with_neighbours s a k)

  -- A job that alone is taken for unassignable has its first bound.
  pub first-only : (w.unassignable ≡ single k) → length w.jobs ≡ most_jobs → bound_by w q s a k ≡ one_bound w q s a k
  first-only u size = elim (dec_le most_jobs k) [
    | yes l ↦ by-past (omega (arith, size)) ∙ sym (one-past (omega (arith, size)) s a)
    | no l ↦ by_first (ap (λ (x : ℕ). first_decides (length w.jobs) x s a k) u ∙ decides-single (length w.jobs) s a k (omega arith))
  ]

-- The second bound is the bound of the job alone, with its neighbours above too.
pub by_both : (w : Workload) (q : List ℕ) (s a : Set) (k : ℕ) → first_decides (length w.jobs) w.unassignable s a k ≡ false
    → bound_by w q s a k ≡ lesser (one_bound w q s a k) (bound_by w q (only k) (with_neighbours s a k) k)
unfolding bound_by
by_both w q s a k e =
    ap (λ (b : Bool). cond b (one_bound w q s a k) (lesser (one_bound w q s a k) (one_bound w q (only k) (with_neighbours s a k) k))) e
    ∙ ap (lesser (one_bound w q s a k)) (sym (by_first w q (only k) (with_neighbours s a k) k (only-decides (length w.jobs) w.unassignable (with_neighbours s a k) k)))
