-- The parts of a bound (02, E6): they make it, how large they are, and what they go by. Assumes nothing.
use mathlib.Core.Path.{◌≡◌, refl, sym, ◌∙◌, ap, ap₂, fun_ext}
use mathlib.Core.Bool.{Bool, true, false, cond, not, ◌&&◌, ◌||◌, or-true, false≢true}
use mathlib.Core.Logic.{◌≢◌, ◌⊎◌, ⊎_elim}
use mathlib.Core.List.{List}
use Prim.Native.Nat.{ℕ, zero, suc, ◌+◌, ◌-◌, ◌*◌, ◌^◌, ◌≤◌, ◌<◌}
use native.Mathlib.Nat.{le_refl, zero-add, mul-le-mul}
use native.Mathlib.Decide.{dec_le, ℕ_discrete}
use native.Mathlib.Omega.{arith}
use lib.Dec.{eqb}
use lib.ListN.{length, get_or, take}
use lib.Seq.{get_or-take}
use borrow.Author.Tests.{eq-eqb, ne_eqb, le-ltb, lt-ltb}
use Rattle.sets.specs.Sets.{Set, Alone}
use Rattle.records.specs.Jobs.{blank_job, job_at}
use Rattle.records.specs.declared.job.Job.{Job}
use Rattle.response.specs.Demand.{ceil_div, interference, neighbours, layer_share, demand, least, finish, plus_delay, Reached, none, larger, response_of, run, most_instances, largest_response, first_bound, with_neighbours, only, second_bound, lesser, bound}
use Rattle.response.specs.declared.parts.Parts.{Parts}
use Rattle.response.specs.Breakdown.{no_parts, own_work, parts_at, reaching, reaching_finish, first_parts, second_parts, parts}
use Rattle.response.proofs.Least.{least-found}
use Rattle.response.proofs.Runs.{plus-from, plus-some, run_none, run-closed, run-open}
use Rattle.response.proofs.Lesser.{lesser-one}
use Rattle.response.proofs.Easier.{interference-mono, interference-split, interference-same, others_same, share-alone, only-alone, first_alone, others-take, interference-take}

-- ---- what a run reaches

-- Among the first n instances, one whose response this is; each before it has a finish, a smaller response, and runs past its next release.
pub record Reaches (f : ℕ → ℕ) (period n : ℕ) (r : Reached) : Type 0 where
  pub within : r.instance < n
  pub response : r.response + r.instance * period ≡ f r.instance
  pub first : (i : ℕ) → i < r.instance → (0 < f i) × (f i - i * period < r.response)
  pub open-ended : (i : ℕ) → i < r.instance → suc i * period < f i

-- The largest response of the first n instances, if any has one.
record Largest (f : ℕ → ℕ) (period n : ℕ) (r : Reached) : Type 0 where
  most : (i : ℕ) → i < n → (0 < f i) × (f i - i * period ≤ r.response)
  reaches : 0 < r.response → Reaches f period n r

module _ (f : ℕ → ℕ) (period : ℕ) where
  largest-next : (j : ℕ) (before : Reached) → f j ≢ 0 → ((i : ℕ) → i < j → suc i * period < f i) → Largest f period j before
      → Largest f period (suc j) (larger before (response_of period j (f j)))
  unfolding larger
  largest-next j before z o w = elim (dec_le (f j - j * period) before.response) [
    | yes h ↦ rw (le-ltb before.response (f j - j * period) h, larger) (record {
      most = λ i l. elim (ℕ_discrete i j) [ yes e ↦ rw e (omega arith, h) | no e ↦ w.most i (omega arith) ];
      reaches = λ p. let r = w.reaches p in record { within = omega (arith, r.within); response = r.response; first = r.first; open-ended = r.open-ended };
    })
    | no h ↦ rw (lt-ltb before.response (f j - j * period) (omega arith), larger) (record {
      most = λ i l. elim (ℕ_discrete i j) [ yes e ↦ rw e (omega arith) | no e ↦ omega (arith, w.most i (omega arith)) ];
      reaches = λ p. record { within = omega arith; response = omega arith; first = λ i l. omega (arith, w.most i l); open-ended = o };
    })
  ]

  run-reaches : (n j : ℕ) (before : Reached) → ((i : ℕ) → i < j → suc i * period < f i) → Largest f period j before → 0 < (run f period n j before).response
      → Reaches f period (j + n) (run f period n j before)
  unfolding run
  run-reaches zero j before o w b = absurd (omega arith)
  run-reaches (suc n) j before o w b = elim (ℕ_discrete (f j) 0) [
    | yes z ↦ let e : 0 < none.response = rw (run_none f period n j before z) at b in absurd (omega arith)
    | no z ↦ elim (dec_le (f j) (suc j * period)) [
      | yes c ↦
          let r = (largest-next j before z o w).reaches (rw (run-closed f period n j before z c) at b) in
          rw (run-closed f period n j before z c) (record { within = omega (arith, r.within); response = r.response; first = r.first; open-ended = r.open-ended })
      | no c ↦
          let e = run-open f period n j before z (omega arith) in
          let on : (i : ℕ) → i < suc j → suc i * period < f i = λ i l. elim (ℕ_discrete i j) [ yes g ↦ rw g (omega arith) | no g ↦ o i (omega arith) ] in
          let r = run-reaches n (suc j) _ on (largest-next j before z o w) (rw e at b) in
          rw e (record { within = omega (arith, r.within); response = r.response; first = r.first; open-ended = r.open-ended })
    ]
  ]

  -- A run that closes reaches its response.
  run-reached : (n : ℕ) → 0 < (run f period n 0 none).response → Reaches f period n (run f period n 0 none)
  run-reached n b =
      rw zero-add
      at (run-reaches n 0 none (λ i l. absurd (omega arith)) (record { most = λ i l. absurd (omega arith); reaches = λ p. absurd (omega arith) }) b)

-- ---- one of the two bounds

module _ (jobs : List Job) (q : List ℕ) (s a : Set) (k : ℕ) where
  abbrev job : Job
  job = job_at jobs k

  abbrev late : ℕ → ℕ
  late j = plus_delay job.delay (finish jobs q s a k j)

  -- The first instance that reaches it, and its finish.
  abbrev here : ℕ
  here = reaching jobs q s a k

  abbrev end : ℕ
  end = reaching_finish jobs q s a k

  pub bound-reached : 0 < first_bound jobs q s a k → Reaches late job.period most_instances (largest_response jobs q s a k)
  unfolding largest_response
  bound-reached b = run-reached late job.period most_instances b

  -- That instance finishes, with the job's delay the bound after its release, and by the deadline.
  pub bound-end : 0 < first_bound jobs q s a k
      → (demand jobs q s a k (own_work job here) end ≡ end) × (end + job.delay ≡ first_bound jobs q s a k + here * job.period)
      × (first_bound jobs q s a k ≤ job.deadline)
  unfolding finish
  bound-end b =
      let r = bound-reached b in
      let p : 0 < end = plus-from job.delay end (omega (arith, r.response)) in
      let e : end + job.delay ≡ first_bound jobs q s a k + here * job.period = omega (arith, r.response, plus-some job.delay end (λ z. omega arith)) in
      let w = least-found (demand jobs q s a k (own_work job here)) (here * job.period + job.deadline - job.delay) 1 p in
      (w.0, e, omega (arith, w.2))

-- ---- the parts

-- What holds of the parts p of a bound of a job.
pub record Held (job : Job) (bound : ℕ) (p : Parts) : Type 0 where
  pub within : p.instance ≤ 63
  pub which : p.which ≤ 2
  pub decided : (bound ≡ 0 → ⊥) → 1 ≤ p.which
  pub by : bound ≤ job.deadline
  pub taken : p.taken ≡ p.instance * job.period
  pub own : p.own ≤ bound + p.taken
  pub share : p.share ≤ bound + p.taken
  pub above : p.above ≤ bound + p.taken
  pub delay : p.delay ≤ bound + p.taken

-- Each amount has four bytes.
abbrev pub Fit : Parts → Type 0
Fit p = (p.own < 2 ^ 32) × (p.share < 2 ^ 32) × (p.above < 2 ^ 32) × (p.delay < 2 ^ 32) × (p.taken < 2 ^ 32)

-- "The first four amounts less the fifth make the bound exactly."
abbrev Makes : ℕ → Parts → Type 0
Makes bound p = p.own + p.share + p.above + p.delay ≡ bound + p.taken

-- No job of the layer is above it.
abbrev pub Apart : ℕ → Set → Set → Type 0
Apart n s a = (i : ℕ) → i < n → s i ≡ true → a i ≡ false

module _ (jobs : List Job) (q : List ℕ) (s a : Set) (k : ℕ) where
  -- The first bound.
  first-makes : 0 < first_bound jobs q s a k → Makes (first_bound jobs q s a k) (first_parts jobs q s a k)
  unfolding first_parts demand
  first-makes b = let w = bound-end jobs q s a k b in omega (arith, w.0, w.1)

  first-held : 0 < first_bound jobs q s a k → Held (job_at jobs k) (first_bound jobs q s a k) (first_parts jobs q s a k)
  unfolding first_parts
  first-held b =
      let m = first-makes b in
      record {
        within = omega (arith, (bound-reached jobs q s a k b).within);
        which = omega arith;
        decided = λ z. omega arith;
        by = (bound-end jobs q s a k b).2;
        taken = refl;
        own = omega arith;
        share = omega arith;
        above = omega arith;
        delay = omega arith;
      }

  -- The second: the jobs above and the neighbours, together and each.
  with-neighbours : Apart (length jobs) s a → (t : ℕ) → interference jobs (with_neighbours s a k) t ≡ interference jobs a t + interference jobs (neighbours s k) t
  with-neighbours x t =
      interference-split jobs (with_neighbours s a k) (neighbours s k) t
      ∙ ap₂ ◌+◌ (interference-same jobs _ a t (λ i l. alone (a i) (s i) (not (eqb i k)) (x i l)))
      (interference-same jobs _ (neighbours s k) t (λ i l. beside (a i) (s i && not (eqb i k))))
    where
      alone : (a s b : Bool) → (s ≡ true → a ≡ false) → ((a || (s && b)) && not (s && b)) ≡ a
      alone true true b h = absurd (false≢true (sym (h refl)))
      alone true false b h = refl
      alone false true true h = refl
      alone false true false h = refl
      alone false false b h = refl

      beside : (a n : Bool) → ((a || n) && n) ≡ n
      beside true n = refl
      beside false true = refl
      beside false false = refl

  pub above_within : (t : ℕ) → interference jobs a t ≤ interference jobs (with_neighbours s a k) t
  above_within t = interference-mono jobs a (with_neighbours s a k) t t (λ i l e. ap (λ (b : Bool). b || neighbours s k i) e) (le_refl t)

  pub neighbours-within : (t : ℕ) → interference jobs (neighbours s k) t ≤ interference jobs (with_neighbours s a k) t
  neighbours-within t = interference-mono jobs (neighbours s k) (with_neighbours s a k) t t (λ i l e. ap (λ (b : Bool). a i || b) e ∙ or-true (a i)) (le_refl t)

  -- The instance that reaches the second bound, and its finish.
  abbrev pub second : ℕ
  second = reaching jobs q (only k) (with_neighbours s a k) k

  abbrev second-end : ℕ
  second-end = reaching_finish jobs q (only k) (with_neighbours s a k) k

  second-total : 0 < second_bound jobs q s a k
      → own_work (job_at jobs k) second + interference jobs (with_neighbours s a k) second-end + (job_at jobs k).delay
      ≡ second_bound jobs q s a k + second * (job_at jobs k).period
  unfolding demand
  second-total b =
      let w = bound-end jobs q (only k) (with_neighbours s a k) k b in
      omega (arith, w.0, w.1, share-alone (length jobs) k q (only k) (only-alone (length jobs) k) (own_work (job_at jobs k) second))

  second-makes : Apart (length jobs) s a → 0 < second_bound jobs q s a k → Makes (second_bound jobs q s a k) (second_parts jobs q s a k)
  unfolding second_parts
  second-makes x b = omega (arith, second-total b, with-neighbours x second-end)

  second-held : 0 < second_bound jobs q s a k → Held (job_at jobs k) (second_bound jobs q s a k) (second_parts jobs q s a k)
  unfolding second_parts
  second-held b =
      let m = second-total b in
      record {
        within = omega (arith, (bound-reached jobs q (only k) (with_neighbours s a k) k b).within);
        which = omega arith;
        decided = λ z. omega arith;
        by = (bound-end jobs q (only k) (with_neighbours s a k) k b).2;
        taken = refl;
        own = omega arith;
        share = omega (arith, neighbours-within second-end);
        above = omega (arith, above_within second-end);
        delay = omega arith;
      }

  -- Which parts they are.
  pub parts_none : bound jobs q s a k ≡ 0 → parts jobs q s a k ≡ no_parts
  unfolding parts
  parts_none z = rw (eq-eqb (bound jobs q s a k) 0 z)

  pub parts_first : bound jobs q s a k ≢ 0 → bound jobs q s a k ≡ first_bound jobs q s a k → parts jobs q s a k ≡ first_parts jobs q s a k
  unfolding parts
  parts_first z e = rw (ne_eqb (bound jobs q s a k) 0 z, eq-eqb (bound jobs q s a k) (first_bound jobs q s a k) e)

  pub parts-second : bound jobs q s a k ≢ 0 → bound jobs q s a k ≢ first_bound jobs q s a k → parts jobs q s a k ≡ second_parts jobs q s a k
  unfolding parts
  parts-second z e = rw (ne_eqb (bound jobs q s a k) 0 z, ne_eqb (bound jobs q s a k) (first_bound jobs q s a k) e)

  pub one-decides : (bound jobs q s a k ≡ first_bound jobs q s a k) ⊎ (bound jobs q s a k ≡ second_bound jobs q s a k)
  unfolding bound
  one-decides = lesser-one (first_bound jobs q s a k) (second_bound jobs q s a k)

  -- What holds of no parts, and of those of either bound, holds of the parts of the bound.
  parts-by : (P : ℕ → Parts → Type 0) → P 0 no_parts → (0 < first_bound jobs q s a k → P (first_bound jobs q s a k) (first_parts jobs q s a k))
      → (0 < second_bound jobs q s a k → P (second_bound jobs q s a k) (second_parts jobs q s a k)) → P (bound jobs q s a k) (parts jobs q s a k)
  parts-by P none one two = elim (ℕ_discrete (bound jobs q s a k) 0) [
    | yes z ↦ rw (parts_none z, z) none
    | no z ↦ elim (ℕ_discrete (bound jobs q s a k) (first_bound jobs q s a k)) [
      | yes e ↦ rw (parts_first z e, e) (one (omega arith))
      | no e ↦ let f = ⊎_elim (λ x. absurd (e x)) (λ x. x) one-decides in rw (parts-second z e, f) (two (omega arith))
    ]
  ]

  -- THE law: the parts make the bound, whichever of the two decided, and where it is 0.
  pub parts-make : Apart (length jobs) s a → Makes (bound jobs q s a k) (parts jobs q s a k)
  parts-make x = parts-by Makes refl first-makes (second-makes x)

  -- For any layer and set above.
  pub parts_held : Held (job_at jobs k) (bound jobs q s a k) (parts jobs q s a k)
  parts_held = parts-by (Held (job_at jobs k)) (record {
    within = omega arith;
    which = omega arith;
    decided = λ z. absurd (z refl);
    by = omega arith;
    taken = omega arith;
    own = omega arith;
    share = omega arith;
    above = omega arith;
    delay = omega arith;
  }) first-held second-held

  -- Each amount has four bytes, of a job whose times have two.
  pub parts-fit : (job_at jobs k).period < 2 ^ 16 → (job_at jobs k).deadline < 2 ^ 16 → Fit (parts jobs q s a k)
  parts-fit ht hd =
      let h = parts_held in
      let l : (parts jobs q s a k).taken ≤ 63 * 65535 = rw h.taken (mul-le-mul {n₂ = 63} {m₂ = 65535} h.within (omega arith)) in
      omega arith

  -- "1 .. for policy 1": a job alone in its layer.
  pub which-alone : Alone (length jobs) s k → bound jobs q s a k ≢ 0 → (parts jobs q s a k).which ≡ 1
  unfolding first_parts
  which-alone x z = ap (λ (p : Parts). p.which) (parts_first z (first_alone jobs k q s a x))

-- ---- what the parts go by

-- The job, what its layer adds for so much own work with its neighbours and without, and the work by a time of the jobs above, of the
-- neighbours and of both.
record View : Type 0 where
  job : Job
  share : ℕ → ℕ
  alone : ℕ → ℕ
  above : ℕ → ℕ
  beside : ℕ → ℕ
  both : ℕ → ℕ

abbrev view_of : List Job → List ℕ → Set → Set → ℕ → View
view_of jobs q s a k = record {
  job = job_at jobs k;
  share = layer_share (length jobs) q s k;
  alone = layer_share (length jobs) q (only k) k;
  above = interference jobs a;
  beside = interference jobs (neighbours s k);
  both = interference jobs (with_neighbours s a k);
}

-- The finish of instance j, the run and the parts, from those.
abbrev finish_in : Job → (ℕ → ℕ) → (ℕ → ℕ) → ℕ → ℕ
finish_in job share above j =
    least (λ t. own_work job j + share (own_work job j) + above t) (j * job.period + job.deadline - job.delay) 1

abbrev run_in : Job → (ℕ → ℕ) → (ℕ → ℕ) → Reached
run_in job share above = run (λ j. plus_delay job.delay (finish_in job share above j)) job.period most_instances 0 none

abbrev first_in : View → Parts
first_in v =
    let j = (run_in v.job v.share v.above).instance in
    parts_at v.job j 1 (v.share (own_work v.job j)) (v.above (finish_in v.job v.share v.above j))

abbrev second_in : View → Parts
second_in v =
    let j = (run_in v.job v.alone v.both).instance in
    let end = finish_in v.job v.alone v.both j in
    parts_at v.job j 2 (v.beside end) (v.above end)

abbrev parts_in : View → Parts
parts_in v =
    let first = (run_in v.job v.share v.above).response in
    let least = lesser first (run_in v.job v.alone v.both).response in
    cond (eqb least 0) no_parts (cond (eqb least first) (first_in v) (second_in v))

parts-view : (jobs : List Job) (q : List ℕ) (s a : Set) (k : ℕ) → parts jobs q s a k ≡ parts_in (view_of jobs q s a k)
unfolding parts first_parts second_parts bound largest_response finish demand
parts-view jobs q s a k = refl

view-same : (v w : View) → v.job ≡ w.job → ((x : ℕ) → v.share x ≡ w.share x) → ((x : ℕ) → v.alone x ≡ w.alone x) → ((t : ℕ) → v.above t ≡ w.above t)
    → ((t : ℕ) → v.beside t ≡ w.beside t) → ((t : ℕ) → v.both t ≡ w.both t) → v ≡ w
view-same v w j s l a b c =
    let with : Job → (ℕ → ℕ) → (ℕ → ℕ) → (ℕ → ℕ) → (ℕ → ℕ) → (ℕ → ℕ) → View =
    λ x share alone above beside both. record { job = x; share = share; alone = alone; above = above; beside = beside; both = both } in
    ap₂ (λ x y. with x y v.alone v.above v.beside v.both) j (fun_ext s)
    ∙ ap₂ (λ x y. with w.job w.share x y v.beside v.both) (fun_ext l) (fun_ext a)
    ∙ ap₂ (λ x y. with w.job w.share w.alone w.above x y) (fun_ext b) (fun_ext c)

-- The parts go by the quanta of the layer's jobs, by who is in the layer and by who is above.
pub parts_same : (jobs : List Job) (k : ℕ) (q q' : List ℕ) (s s' a a' : Set) → get_or q k 0 ≡ get_or q' k 0
    → ((i : ℕ) → i < length jobs → s' i ≡ true → get_or q i 0 ≡ get_or q' i 0)
    → ((i : ℕ) → i < length jobs → s i ≡ s' i) → ((i : ℕ) → i < length jobs → a i ≡ a' i) → parts jobs q s a k ≡ parts jobs q' s' a' k
unfolding layer_share
parts_same jobs k q q' s s' a a' e h f g =
    let n = length jobs in
    let beside : (i : ℕ) → i < n → neighbours s k i ≡ neighbours s' k i = λ i l. ap (λ (b : Bool). b && not (eqb i k)) (f i l) in
    parts-view jobs q s a k
    ∙ ap parts_in
    (view-same (view_of jobs q s a k) (view_of jobs q' s' a' k) refl
    (λ own. ap₂ (λ (x y : ℕ). ceil_div own x * y) e (others_same n k q q' s s' f (λ i l x d. h i l x)))
    (λ own. share-alone n k q (only k) (only-alone n k) own ∙ sym (share-alone n k q' (only k) (only-alone n k) own))
    (λ t. interference-same jobs a a' t g)
    (λ t. interference-same jobs (neighbours s k) (neighbours s' k) t beside)
    (λ t. interference-same jobs (with_neighbours s a k) (with_neighbours s' a' k) t (λ i l. ap₂ ◌||◌ (g i l) (beside i l))))
    ∙ sym (parts-view jobs q' s' a' k)

-- They see a table as they see the list that the table begins with, if the sets have no place past it.
pub parts-take : (n : ℕ) (jobs : List Job) (q : List ℕ) (s a : Set) (k : ℕ) → n ≤ length jobs → k < n
    → ((i : ℕ) → n ≤ i → s i ≡ false) → ((i : ℕ) → n ≤ i → a i ≡ false) → parts jobs q s a k ≡ parts (take n jobs) q s a k
unfolding layer_share
parts-take n jobs q s a k h kn hs ha =
    let beside : (i : ℕ) → n ≤ i → neighbours s k i ≡ false = λ i l. ap (λ (b : Bool). b && not (eqb i k)) (hs i l) in
    let cycles : ℕ → ℕ → ℕ = λ own others. ceil_div own (get_or q k 0) * others in
    parts-view jobs q s a k
    ∙ ap parts_in
    (view-same (view_of jobs q s a k) (view_of (take n jobs) q s a k) (sym (get_or-take n jobs k blank_job kn))
    (λ own. ap (cycles own) (others-take n jobs h q s k hs))
    (λ own. ap (cycles own) (others-take n jobs h q (only k) k (λ i l. ne_eqb i k (λ e. omega arith))))
    (interference-take n jobs h a ha)
    (interference-take n jobs h (neighbours s k) beside)
    (interference-take n jobs h (with_neighbours s a k) (λ i l. ap₂ ◌||◌ (ha i l) (beside i l))))
    ∙ sym (parts-view (take n jobs) q s a k)
