-- The laws of the bound that crates above use; none of them opens it. Assumes nothing.
use mathlib.Core.Path.{◌≡◌, refl, sym, ◌∙◌, ap, ap₂, fun_ext}
use mathlib.Core.Bool.{Bool, true, false, not, ◌&&◌, ◌||◌, and-eq-true_iff, false≢true}
use mathlib.Core.Logic.{◌↔◌, ◌≢◌}
use mathlib.Core.List.{List}
use Prim.Native.Nat.{ℕ, suc, ◌+◌, ◌-◌, ◌*◌, ◌≤◌, ◌<◌}
use native.Mathlib.Nat.{le_refl, mul-le-mul, mul-le-mul_right, mul-le-mul_left, mul-zero}
use native.Mathlib.Omega.{arith}
use lib.Dec.{eqb}
use lib.ListN.{length, get_or, take}
use lib.Seq.{get_or-take, length-take-le}
use borrow.Author.Tests.{eqb-true, eqb-false, ne_eqb, not-true}
use Rattle.sets.specs.Sets.{Set, Sub, Alone}
use Rattle.sets.specs.Places.{sum_over}
use Rattle.sets.proofs.Places.{over-mono, over-same, over_zero, over-cut, over-split}
use Rattle.records.specs.Jobs.{blank_job, job_at}
use Rattle.records.specs.declared.job.Job.{Job}
use Rattle.response.specs.Demand.{ceil_div, work, interference, other_quanta, layer_share, demand, least, finish, plus_delay, none, run, most_instances, largest_response, first_bound, with_neighbours, only, second_bound, lesser, bound}
use Rattle.response.proofs.Division.{ceil-mono, ceil-anti}
use Rattle.response.proofs.Least.{Rising, served-exactly, sooner}
use Rattle.response.proofs.Runs.{plus-at-least, plus-from, plus-mono, run-sooner}
use Rattle.response.proofs.Lesser.{lesser-none, lesser-same, lesser-serves}

-- ---- interference

pub interference-mono : (jobs : List Job) (a b : Set) (t u : ℕ) → Sub (length jobs) a b → t ≤ u → interference jobs a t ≤ interference jobs b u
unfolding interference work
interference-mono jobs a b t u s h =
    over-mono (length jobs) a b _ _ s
    (λ i l e. let job = job_at jobs i in mul-le-mul_right job.cost (ceil-mono (t + job.delay) (u + job.delay) job.period (omega arith)))

-- The jobs of a set that pass a test, and the others.
pub interference-split : (jobs : List Job) (a test : Set) (t : ℕ)
    → interference jobs a t ≡ interference jobs (λ i. a i && not (test i)) t + interference jobs (λ i. a i && test i) t
unfolding interference
interference-split jobs a test t = over-split (length jobs) a test _

pub interference-same : (jobs : List Job) (a b : Set) (t : ℕ) → ((i : ℕ) → i < length jobs → a i ≡ b i) → interference jobs a t ≡ interference jobs b t
unfolding interference
interference-same jobs a b t h = over-same (length jobs) a b _ _ h (λ i l e. refl)

-- ---- the other quanta of a layer

-- A job of the layer other than k.
other : (s : Set) (k i : ℕ) → (s i && not (eqb i k)) ≡ true → (s i ≡ true) × (i ≢ k)
other s k i e = let w = (and-eq-true_iff (s i) (not (eqb i k))).0 e in (w.0, eqb-false i k (not-true (eqb i k) w.1))

-- Fewer jobs, or smaller quanta of the others.
pub others-mono : (n k : ℕ) (q q' : List ℕ) (s s' : Set) → Sub n s' s → ((i : ℕ) → i < n → s' i ≡ true → i ≢ k → get_or q' i 0 ≤ get_or q i 0)
    → other_quanta n q' s' k ≤ other_quanta n q s k
unfolding other_quanta
others-mono n k q q' s s' h l =
    over-mono n (λ i. s' i && not (eqb i k)) (λ i. s i && not (eqb i k)) _ _
    (λ i il e. let w = (and-eq-true_iff (s' i) (not (eqb i k))).0 e in (and-eq-true_iff (s i) (not (eqb i k))).1 (h i il w.0, w.1))
    (λ i il e. let w = other s' k i e in l i il w.0 w.1)

pub others_same : (n k : ℕ) (q q' : List ℕ) (s s' : Set) → ((i : ℕ) → i < n → s i ≡ s' i) → ((i : ℕ) → i < n → s' i ≡ true → i ≢ k → get_or q i 0 ≡ get_or q' i 0)
    → other_quanta n q s k ≡ other_quanta n q' s' k
unfolding other_quanta
others_same n k q q' s s' h l =
    over-same n (λ i. s i && not (eqb i k)) (λ i. s' i && not (eqb i k)) _ _
    (λ i il. ap (λ (b : Bool). b && not (eqb i k)) (h i il))
    (λ i il e. let w = other s' k i e in l i il w.0 w.1)

pub others-alone : (n k : ℕ) (q : List ℕ) (s : Set) → Alone n s k → other_quanta n q s k ≡ 0
unfolding other_quanta
others-alone n k q s a = over_zero n (λ i. s i && not (eqb i k)) _ (λ i il e. let w = other s k i e in absurd (w.1 (a i il w.0)))

-- ---- the share of the layer

-- Job k's share of its layer is no larger, for any amount of own work.
abbrev pub Lighter : ℕ → ℕ → List ℕ → Set → List ℕ → Set → Type 0
Lighter n k q s q' s' = (own : ℕ) → layer_share n q' s' k own ≤ layer_share n q s k own

-- The same quanta, and fewer jobs.
pub lighter-drop : (n k : ℕ) (q : List ℕ) (s s' : Set) → Sub n s' s → Lighter n k q s q s'
unfolding layer_share
lighter-drop n k q s s' h own = mul-le-mul_left (ceil_div own (get_or q k 0)) (others-mono n k q q s s' h (λ i il e d. le_refl (get_or q i 0)))

-- A quantum that is no shorter, beside others whose sum is no larger: served falls as the sum of the other quanta rises.
pub lighter-quanta : (n k : ℕ) (q q' : List ℕ) (s s' : Set) → 0 < get_or q k 0 → get_or q k 0 ≤ get_or q' k 0 → other_quanta n q' s' k ≤ other_quanta n q s k → Lighter n k q s q' s'
unfolding layer_share
lighter-quanta n k q q' s s' p h o own = mul-le-mul (ceil-anti own (get_or q k 0) (get_or q' k 0) p h) o

-- No other job: no share.
pub share-alone : (n k : ℕ) (q : List ℕ) (s : Set) → Alone n s k → (own : ℕ) → layer_share n q s k own ≡ 0
unfolding layer_share
share-alone n k q s a own = rw (others-alone n k q s a, mul-zero)

pub lighter-alone : (n k : ℕ) (q q' : List ℕ) (s s' : Set) → Alone n s' k → Lighter n k q s q' s'
lighter-alone n k q q' s s' a own = omega (arith, share-alone n k q' s' a own)

pub only-alone : (n k : ℕ) → Alone n (only k) k
only-alone n k i il e = eqb-true i k e

-- ---- THE law: a job that is served stays served with a lighter share, a smaller layer and a smaller set above

rising : (jobs : List Job) (q : List ℕ) (s a : Set) (k own : ℕ) → 0 < own → Rising (demand jobs q s a k own)
unfolding demand
rising jobs q s a k own p = record {
  pos = λ t h. omega arith;
  mono = λ t u h. omega (arith, interference-mono jobs a a t u (λ i l e. e) h);
}

-- Each instance has own work.
works : (cost j : ℕ) → 0 < cost → 0 < suc j * cost
works cost j p = omega (arith, mul-le-mul_right {m = 1} {n = suc j} cost (omega arith))

-- Each finish that is in reach stays in reach, and is no later.
finish-sooner : (jobs : List Job) (k : ℕ) (q q' : List ℕ) (s s' a a' : Set) → 0 < (job_at jobs k).cost
    → Lighter (length jobs) k q s q' s' → Sub (length jobs) a' a
    → (j : ℕ) → 0 < finish jobs q s a k j → (0 < finish jobs q' s' a' k j) × (finish jobs q' s' a' k j ≤ finish jobs q s a k j)
unfolding finish demand
finish-sooner jobs k q q' s s' a a' p h ha j b =
    let job = job_at jobs k in
    let own = suc j * job.cost in
    sooner (demand jobs q s a k own) (demand jobs q' s' a' k own) (rising jobs q' s' a' k own (works job.cost j p))
    (λ t. omega (arith, h own, interference-mono jobs a' a t t ha (le_refl t))) (j * job.period + job.deadline - job.delay) b

-- So is each finish plus the delay.
late-sooner : (jobs : List Job) (k : ℕ) (q q' : List ℕ) (s s' a a' : Set) → 0 < (job_at jobs k).cost
    → Lighter (length jobs) k q s q' s' → Sub (length jobs) a' a
    → (j : ℕ) → let delay = (job_at jobs k).delay in
    0 < plus_delay delay (finish jobs q s a k j)
    → (0 < plus_delay delay (finish jobs q' s' a' k j)) × (plus_delay delay (finish jobs q' s' a' k j) ≤ plus_delay delay (finish jobs q s a k j))
late-sooner jobs k q q' s s' a a' p h ha j b =
    let delay = (job_at jobs k).delay in
    let old = finish jobs q s a k j in
    let new = finish jobs q' s' a' k j in
    let w = finish-sooner jobs k q q' s s' a a' p h ha j (plus-from delay old b) in
    (omega (arith, w.0, plus-at-least delay new), plus-mono delay new old w.0 w.1)

-- One of the two bounds, by its share and its set above.
run-easier : (jobs : List Job) (k : ℕ) (q q' : List ℕ) (s s' a a' : Set) → 0 < (job_at jobs k).cost
    → Lighter (length jobs) k q s q' s' → Sub (length jobs) a' a → 0 < first_bound jobs q s a k → 0 < first_bound jobs q' s' a' k
unfolding largest_response
run-easier jobs k q q' s s' a a' p h ha b =
    run-sooner _ _ (job_at jobs k).period (late-sooner jobs k q q' s s' a a' p h ha)
    most_instances 0 none none (λ g. omega arith) b

-- Fewer neighbours, counted as if they were above a smaller set above.
with-sub : (n k : ℕ) (s s' a a' : Set) → Sub n s' s → Sub n a' a → Sub n (with_neighbours s' a' k) (with_neighbours s a k)
with-sub n k s s' a a' hs ha i il e = pick (a' i) (a i) (s' i) (s i) (not (eqb i k)) (ha i il) (hs i il) e
  where
    pick : (a' a s' s b : Bool) → (a' ≡ true → a ≡ true) → (s' ≡ true → s ≡ true) → (a' || (s' && b)) ≡ true → (a || (s && b)) ≡ true
    pick true a s' s b f g e = ap (λ (x : Bool). x || (s && b)) (f refl)
    pick false true s' s b f g e = refl
    pick false false true s b f g e = ap (λ (x : Bool). x && b) (g refl) ∙ e
    pick false false false s b f g e = absurd (false≢true e)

pub easier : (jobs : List Job) (k : ℕ) (q q' : List ℕ) (s s' a a' : Set) → 0 < (job_at jobs k).cost
    → Lighter (length jobs) k q s q' s' → Sub (length jobs) s' s → Sub (length jobs) a' a
    → 0 < bound jobs q s a k → 0 < bound jobs q' s' a' k
unfolding bound
easier jobs k q q' s s' a a' p h hs ha b =
    let n = length jobs in
    lesser-serves (first_bound jobs q s a k) (second_bound jobs q s a k) (first_bound jobs q' s' a' k) (second_bound jobs q' s' a' k)
    (run-easier jobs k q q' s s' a a' p h ha)
    (run-easier jobs k q q' (only k) (only k) (with_neighbours s a k) (with_neighbours s' a' k) p (lighter-alone n k q q' (only k) (only k) (only-alone n k)) (with-sub n k s s' a a' hs ha)) b

-- ---- what the bound goes by

-- The bound of a job with a demand f for so much own work.
abbrev bound_for : (ℕ → ℕ → ℕ) → Job → ℕ
bound_for f job =
    (run (λ j. plus_delay job.delay (least (f (suc j * job.cost)) (j * job.period + job.deadline - job.delay) 1)) job.period most_instances 0 none
    ).response

share-same : (jobs : List Job) (k : ℕ) (q q' : List ℕ) (s s' a a' : Set)
    → ((own : ℕ) → layer_share (length jobs) q s k own ≡ layer_share (length jobs) q' s' k own)
    → ((i : ℕ) → i < length jobs → a i ≡ a' i) → first_bound jobs q s a k ≡ first_bound jobs q' s' a' k
unfolding largest_response finish demand
share-same jobs k q q' s s' a a' h g =
    let same : (own t : ℕ) → demand jobs q s a k own t ≡ demand jobs q' s' a' k own t = λ own t. omega (arith, h own, interference-same jobs a a' t g) in
    ap (λ (f : ℕ → ℕ → ℕ). bound_for f (job_at jobs k)) (fun_ext (λ own. fun_ext (same own)))

-- Two jobs alone in their layers, below sets that are the same.
alone-same : (jobs : List Job) (k : ℕ) (q q' : List ℕ) (s s' a a' : Set) → Alone (length jobs) s k → Alone (length jobs) s' k
    → ((i : ℕ) → i < length jobs → a i ≡ a' i) → first_bound jobs q s a k ≡ first_bound jobs q' s' a' k
alone-same jobs k q q' s s' a a' x y g =
    share-same jobs k q q' s s' a a' (λ own. share-alone (length jobs) k q s x own ∙ sym (share-alone (length jobs) k q' s' y own)) g

-- The second bound goes by who is in the layer and who is above; no quantum counts.
second-same : (jobs : List Job) (k : ℕ) (q q' : List ℕ) (s s' a a' : Set) → ((i : ℕ) → i < length jobs → with_neighbours s a k i ≡ with_neighbours s' a' k i)
    → second_bound jobs q s a k ≡ second_bound jobs q' s' a' k
second-same jobs k q q' s s' a a' g =
    alone-same jobs k q q' (only k) (only k) (with_neighbours s a k) (with_neighbours s' a' k) (only-alone (length jobs) k) (only-alone (length jobs) k) g

-- The bound goes by the quanta of the layer's jobs, by who is in the layer and by who is above.
pub bound-same : (jobs : List Job) (k : ℕ) (q q' : List ℕ) (s s' a a' : Set) → get_or q k 0 ≡ get_or q' k 0
    → ((i : ℕ) → i < length jobs → s' i ≡ true → get_or q i 0 ≡ get_or q' i 0)
    → ((i : ℕ) → i < length jobs → s i ≡ s' i) → ((i : ℕ) → i < length jobs → a i ≡ a' i) → bound jobs q s a k ≡ bound jobs q' s' a' k
unfolding bound layer_share
bound-same jobs k q q' s s' a a' e h f g =
    ap₂ lesser
    (share-same jobs k q q' s s' a a'
    (λ own. ap₂ (λ (x y : ℕ). ceil_div own x * y) e (others_same (length jobs) k q q' s s' f (λ i il x d. h i il x))) g)
    (second-same jobs k q q' s s' a a' (λ i il. ap₂ (λ (x y : Bool). x || (y && not (eqb i k))) (g i il) (f i il)))

-- A job alone in its layer has no neighbours.
no-neighbour : (n k : ℕ) (s a : Set) → Alone n s k → (i : ℕ) → i < n → with_neighbours s a k i ≡ a i
no-neighbour n k s a x i il = drop (a i) (s i) (not (eqb i k)) (λ e f. eqb-false i k (not-true (eqb i k) f) (x i il e))
  where
    drop : (a s b : Bool) → (s ≡ true → b ≡ true → ⊥) → (a || (s && b)) ≡ a
    drop true s b h = refl
    drop false true true h = absurd (h refl refl)
    drop false true false h = refl
    drop false false b h = refl

-- "Policy 1 jobs have the first alone": without neighbours the two bounds are one.
pub second-first : (jobs : List Job) (k : ℕ) (q : List ℕ) (s a : Set) → Alone (length jobs) s k → second_bound jobs q s a k ≡ first_bound jobs q s a k
second-first jobs k q s a x =
    alone-same jobs k q q (only k) s (with_neighbours s a k) a (only-alone (length jobs) k) x (no-neighbour (length jobs) k s a x)

pub first_alone : (jobs : List Job) (k : ℕ) (q : List ℕ) (s a : Set) → Alone (length jobs) s k → bound jobs q s a k ≡ first_bound jobs q s a k
unfolding bound
first_alone jobs k q s a x = lesser-same (first_bound jobs q s a k) (second_bound jobs q s a k) (second-first jobs k q s a x)

-- A second bound of 0 leaves the first.
pub second_none : (jobs : List Job) (k : ℕ) (q : List ℕ) (s a : Set) → second_bound jobs q s a k ≡ 0 → bound jobs q s a k ≡ first_bound jobs q s a k
unfolding bound
second_none jobs k q s a e = lesser-none (first_bound jobs q s a k) (second_bound jobs q s a k) e

-- A job alone in its layer: no quantum counts.
pub bound-alone : (jobs : List Job) (k : ℕ) (q q' : List ℕ) (s s' a a' : Set) → Alone (length jobs) s k → Alone (length jobs) s' k
    → ((i : ℕ) → i < length jobs → a i ≡ a' i) → bound jobs q s a k ≡ bound jobs q' s' a' k
bound-alone jobs k q q' s s' a a' x y g =
    first_alone jobs k q s a x ∙ alone-same jobs k q q' s s' a a' x y g ∙ sym (first_alone jobs k q' s' a' y)

-- The second bound of a job in a set is the bound that it has alone with its neighbours above, whatever its quantum.
pub second-alone : (jobs : List Job) (k : ℕ) (q q' : List ℕ) (s s' a : Set) → Alone (length jobs) s' k
    → second_bound jobs q s a k ≡ bound jobs q' s' (with_neighbours s a k) k
second-alone jobs k q q' s s' a x =
    alone-same jobs k q q' (only k) s' (with_neighbours s a k) (with_neighbours s a k) (only-alone (length jobs) k) x (λ i il. refl)
    ∙ sym (first_alone jobs k q' s' (with_neighbours s a k) x)

-- Sums over a table, as over the list that the table begins with, for sets that have no place past it.
module _ (n : ℕ) (jobs : List Job) (h : n ≤ length jobs) where
  size-take : length (take n jobs) ≡ n
  size-take = length-take-le n jobs h

  pub others-take : (q : List ℕ) (s : Set) (k : ℕ) → ((i : ℕ) → n ≤ i → s i ≡ false) → other_quanta (length jobs) q s k ≡ other_quanta (length (take n jobs)) q s k
  unfolding other_quanta
  others-take q s k hs =
      over-cut n (length jobs) (λ i. s i && not (eqb i k)) (λ i. get_or q i 0) h
      (λ i l il e. absurd (false≢true (sym (hs i l) ∙ (other s k i e).0)))
      ∙ ap (λ (m : ℕ). other_quanta m q s k) (sym size-take)

  pub interference-take : (a : Set) → ((i : ℕ) → n ≤ i → a i ≡ false) → (t : ℕ) → interference jobs a t ≡ interference (take n jobs) a t
  unfolding interference
  interference-take a ha t =
      over-cut n (length jobs) a (λ i. work (job_at jobs i) t) h (λ i l il e. absurd (false≢true (sym (ha i l) ∙ e)))
      ∙ over-same n a a _ (λ i. work (job_at (take n jobs) i) t) (λ i l. refl) (λ i l e. ap (λ (job : Job). work job t) (sym (get_or-take n jobs i blank_job l)))
      ∙ ap (λ (m : ℕ). sum_over m a (λ i. work (job_at (take n jobs) i) t)) (sym size-take)

-- One of the two bounds of a table, as of the list that the table begins with.
run_take : (n : ℕ) (jobs : List Job) (q : List ℕ) (s a : Set) (k : ℕ) → n ≤ length jobs → k < n
    → ((i : ℕ) → n ≤ i → s i ≡ false) → ((i : ℕ) → n ≤ i → a i ≡ false) → first_bound jobs q s a k ≡ first_bound (take n jobs) q s a k
unfolding largest_response finish demand layer_share
run_take n jobs q s a k h kn hs ha =
    ap₂ bound_for (fun_ext (λ own. fun_ext (same own))) (sym (get_or-take n jobs k blank_job kn))
  where
    same : (own t : ℕ) → demand jobs q s a k own t ≡ demand (take n jobs) q s a k own t
    same own t = ap₂ (λ (x y : ℕ). own + ceil_div own (get_or q k 0) * x + y) (others-take n jobs h q s k hs) (interference-take n jobs h a ha t)

-- The bound sees a table as it sees the list that the table begins with, if the sets have no place past it.
pub bound-take : (n : ℕ) (jobs : List Job) (q : List ℕ) (s a : Set) (k : ℕ) → n ≤ length jobs → k < n
    → ((i : ℕ) → n ≤ i → s i ≡ false) → ((i : ℕ) → n ≤ i → a i ≡ false) → bound jobs q s a k ≡ bound (take n jobs) q s a k
unfolding bound
bound-take n jobs q s a k h kn hs ha =
    ap₂ lesser (run_take n jobs q s a k h kn hs ha)
    (run_take n jobs q (only k) (with_neighbours s a k) k h kn (λ i l. ne_eqb i k (λ e. omega arith))
    (λ i l. ap₂ (λ (x y : Bool). x || (y && not (eqb i k))) (ha i l) (hs i l)))

-- An instance has its finish in reach exactly if some time in reach covers its demand.
pub finishes-by : (jobs : List Job) (q : List ℕ) (s a : Set) (k j : ℕ) → 0 < (job_at jobs k).cost
    → (0 < finish jobs q s a k j)
    ↔ ((t : ℕ) × (0 < t) × (t ≤ j * (job_at jobs k).period + (job_at jobs k).deadline - (job_at jobs k).delay) × (demand jobs q s a k (suc j * (job_at jobs k).cost) t ≤ t))
unfolding finish
finishes-by jobs q s a k j p =
    let own = suc j * (job_at jobs k).cost in
    served-exactly (demand jobs q s a k own) (rising jobs q s a k own (works (job_at jobs k).cost j p)) (j * (job_at jobs k).period + (job_at jobs k).deadline - (job_at jobs k).delay)
