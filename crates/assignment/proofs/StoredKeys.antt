-- The second bounds (E2) leave the planner's answers as they are, in whatever order by size sets are tried: a job's second bound in a set is
-- the bound that it has alone with the rest above, and sets of one come first. Assumes nothing.
use Prim.Native.Nat.{ℕ, zero, suc, ◌+◌, ◌^◌, ◌≤◌, ◌<◌}
use mathlib.Core.Path.{◌≡◌, refl, sym, ◌∙◌, ap, ap₂, fun_ext}
use mathlib.Core.Bool.{Bool, true, false, cond, not, ◌&&◌, ◌||◌, and-eq-true_iff, false≢true}
use mathlib.Core.Logic.{◌⊎◌, inl, inr, ⊎_elim, ◌≢◌}
use mathlib.Core.List.Memᴰ
use mathlib.Core.List.{List, [], ◌∷◌, Memᴰ}
use mathlib.Core.Option.{Option, none, some}
use native.Mathlib.Nat.{le_refl}
use native.Mathlib.Decide.{dec_le, ℕ_discrete}
use native.Mathlib.Omega.{arith}
use lib.Dec.{eqb, ltb}
use lib.ListN.{length, get_or}
use lib.Pow.{pow-lt}
use borrow.Author.Tests.{eq-eqb, ne_eqb, eqb-true}
use Rattle.sets.specs.Sets.{places, has, single, rest, remove, within, size, first_jobs, but, Alone}
use Rattle.sets.specs.Order.{subsets, first_taken, considered, considered_count, Pairwise, BySize}
use Rattle.sets.proofs.Places.{every-same, list_same}
use Rattle.sets.proofs.Members.{has_rest, has-single, has-others, has-pos, single-is}
use Rattle.sets.proofs.Parts.{within_has, has_within, within-le, rest_lt, size-pos, size-one, size-rest}
use Rattle.sets.proofs.LowestMember.{size-remove}
use Rattle.sets.proofs.Ordering.{keep-in, keep_out, keep-pairwise}
use Rattle.sets.proofs.Considering.{first-hit, first-miss, Tried, Took, tried-or-took, considered-none, considered-stops, considered-goes}
use Rattle.records.specs.declared.job.Job.{Job}
use Rattle.periods.specs.ByPeriods.{by_periods}
use Rattle.response.specs.Demand.{first_bound, with_neighbours, second_bound, bound}
use Rattle.response.proofs.Easier.{bound-alone, first_alone, second-alone, second_none}
use Rattle.assignment.specs.Plan.{smallest, quantum_ranges, serves_by, quanta_for, quanta_by, is_found, quanta_in, Stage, place, place_by, chosen, plan_from, plan_from_by, start, plan_over, plan_by, plan_with, plan}
use Rattle.assignment.proofs.Serving.{Costs}
use Rattle.assignment.proofs.Taking.{Of, served-drop, per-job}
use Rattle.assignment.proofs.Plays.{AllSets, plan-stops, plan-goes}
use Rattle.assignment.proofs.Planned.{start-less, periods-all, periods-by-size}

-- ---- two tests that differ only after a smaller set that is taken

abbrev Rising : List ℕ → Type 0
Rising = Pairwise (λ x y. (size x ≤ size y) × (x ≢ y))

-- A smaller set of the list can be taken.
abbrev Smaller : (ℕ → Bool) → List ℕ → ℕ → Type 0
Smaller t xs x = (y : ℕ) × Memᴰ y xs × (size y < size x) × (t y ≡ true)

-- They take and consider the same.
agree : (t u : ℕ → Bool) (xs : List ℕ) → Rising xs → ((x : ℕ) → Memᴰ x xs → (t x ≡ u x) ⊎ Smaller t xs x)
    → (first_taken t xs ≡ first_taken u xs) × (considered t xs ≡ considered u xs)
unfolding first_taken considered
agree t u [] o h = (refl, refl)
agree t u (x ∷ xs) o h = go (t x) refl (agree t u xs o.1)
  where
    head-same : t x ≡ u x
    head-same = ⊎_elim (λ e. e) (λ w. ⊎_elim
        (λ e. absurd (omega (arith, ap size e, w.2)))
        (λ m. absurd (omega (arith, (o.0 w.0 m).0, w.2)))
        (Memᴰ.cases_cons w.1)) (h x (Memᴰ.head refl))

    go : (b : Bool) → t x ≡ b
        → (((y : ℕ) → Memᴰ y xs → (t y ≡ u y) ⊎ Smaller t xs y) → (first_taken t xs ≡ first_taken u xs) × (considered t xs ≡ considered u xs))
        → (first_taken t (x ∷ xs) ≡ first_taken u (x ∷ xs)) × (considered t (x ∷ xs) ≡ considered u (x ∷ xs))
    go true e ih =
        let a = first-hit t x xs e in
        let b = first-hit u x xs (sym head-same ∙ e) in
        (a.0 ∙ sym b.0, a.1 ∙ sym b.1)
    go false e ih =
        let a = first-miss t x xs e in
        let b = first-miss u x xs (sym head-same ∙ e) in
        let w = ih (λ y m. ⊎_elim inl (λ v. ⊎_elim
        (λ z. absurd (false≢true (sym e ∙ ap t (sym z) ∙ v.3)))
        (λ k. inr (v.0, k, v.2, v.3))
        (Memᴰ.cases_cons v.1)) (h y (Memᴰ.tail m))) in
        (a.0 ∙ w.0 ∙ sym b.0, a.1 ∙ ap (λ (l : List ℕ). x ∷ l) w.1 ∙ sym b.1)

-- A set of the list that can be taken: the one that is taken is no larger.
first-least : (t : ℕ → Bool) (xs : List ℕ) → Rising xs → (x : ℕ) → Memᴰ x xs → t x ≡ true → size (first_taken t xs) ≤ size x
unfolding first_taken
first-least t [] o x m e = absurd (Memᴰ.not-nil m)
first-least t (y ∷ ys) o x m e = go (t y) refl (Memᴰ.cases_cons m) (first-least t ys o.1 x)
  where
    go : (b : Bool) → t y ≡ b → (x ≡ y) ⊎ Memᴰ x ys → (Memᴰ x ys → t x ≡ true → size (first_taken t ys) ≤ size x) → size (first_taken t (y ∷ ys)) ≤ size x
    go true g (inl z) ih = omega (arith, ap size (first-hit t y ys g).0, ap size z)
    go true g (inr v) ih = omega (arith, ap size (first-hit t y ys g).0, (o.0 x v).0)
    go false g (inl z) ih = absurd (false≢true (sym g ∙ ap t (sym z) ∙ e))
    go false g (inr v) ih = omega (arith, ap size (first-miss t y ys g).0, ih v e)

-- What is taken is a set of the list.
taken_in : (t : ℕ → Bool) (xs : List ℕ) → 0 < first_taken t xs → Memᴰ (first_taken t xs) xs
taken_in t xs p = ⊎_elim
    (λ (w : Tried t xs). absurd (omega (arith, w.first)))
    (λ (w : Took t xs). rw (w.first, w.split) (Memᴰ.append_right w.before (Memᴰ.head refl)))
    (tried-or-took t xs)

-- A place below n passes the test, or none does.
some_or_none : (test : ℕ → Bool) (n : ℕ) → ((k : ℕ) × (k < n) × (test k ≡ true)) ⊎ ((k : ℕ) → k < n → test k ≡ false)
some_or_none test zero = inr (λ k l. absurd (omega arith))
some_or_none test (suc n) = go (test n) refl (some_or_none test n)
  where
    go : (b : Bool) → test n ≡ b → ((k : ℕ) × (k < n) × (test k ≡ true)) ⊎ ((k : ℕ) → k < n → test k ≡ false)
        → ((k : ℕ) × (k < suc n) × (test k ≡ true)) ⊎ ((k : ℕ) → k < suc n → test k ≡ false)
    go true e w = inl (n, omega arith, e)
    go false e (inl w) = inl (w.0, omega (arith, w.1), w.2)
    go false e (inr w) = inr (λ k l. elim (ℕ_discrete k n) [ yes z ↦ ap test z ∙ e | no z ↦ w k (omega arith) ])

not_found : (o : Option (List ℕ)) → is_found o ≡ false → o ≡ none
not_found none e = refl
not_found (some q) e = absurd (false≢true (sym e))

-- ---- sets of one

single-lt : (n k : ℕ) → k < n → n ≤ places → single k < 2 ^ n
single-lt n k l few = rw (single-is k (omega arith)) (pow-lt l)

single-own : (k : ℕ) → k < places → has (single k) k ≡ true
single-own k l = has-single k k l ∙ eq-eqb k k refl

single-size : (k : ℕ) → k < places → size (single k) ≡ 1
unfolding remove
single-size k l =
    let s = single k in
    omega (arith, size-remove s k l (single-own k l), size-rest s s (has_within places s s (single-lt places k l (le_refl places)) (λ i il e. e)))

-- ---- the second bound of a job in a set that is tried

module _ (jobs : List Job) (costs : Costs jobs) (few : length jobs ≤ places) where
  abbrev n : ℕ
  n = length jobs

  single-alone : (k : ℕ) → k < n → Alone n (has (single k)) k
  single-alone k l i il e = sym (eqb-true k i (sym (has-single k i (omega (arith, few))) ∙ e))

  single_of : (r k : ℕ) → k < n → has r k ≡ true → Of n r (single k)
  single_of r k l e = (single-lt n k l few, λ i il x. ap (has r) (single-alone k l i il x) ∙ e)

  -- The rest above a set, with the neighbours of a job of it: the rest above the job alone.
  rest-with : (r s k : ℕ) → Of n r s → has s k ≡ true → (i : ℕ) → i < n → with_neighbours (has s) (has (rest r s)) k i ≡ has (rest r (single k)) i
  unfolding remove
  rest-with r s k o e i il =
      ap (λ (b : Bool). b || (has s i && not (eqb i k))) (has_rest i r s)
      ∙ pick (has r i) (has s i) (not (eqb i k)) (o.1 i il) (λ x. ap not (ne_eqb i k (λ z. false≢true (sym x ∙ ap (has s) z ∙ e))))
      ∙ sym (has-others r k i (omega (arith, few)))
    where
      pick : (r s b : Bool) → (s ≡ true → r ≡ true) → (s ≡ false → b ≡ true) → ((r && not s) || (s && b)) ≡ (r && b)
      pick true true b f g = refl
      pick true false b f g = sym (g refl)
      pick false true b f g = absurd (false≢true (f refl))
      pick false false b f g = refl

  -- The second bound of a job in a set is the bound that the job has alone with the rest above.
  pub second-is-alone : (r s k : ℕ) (q q' : List ℕ) → Of n r s → k < n → has s k ≡ true
      → second_bound jobs q (has s) (has (rest r s)) k ≡ bound jobs q' (has (single k)) (has (rest r (single k))) k
  second-is-alone r s k q q' o l e =
      second-alone jobs k q q' (has s) (has (single k)) (has (rest r s)) (single-alone k l)
      ∙ bound-alone jobs k q' q' (has (single k)) (has (single k)) (with_neighbours (has s) (has (rest r s)) k) (has (rest r (single k)))
      (single-alone k l) (single-alone k l) (rest-with r s k o e)

  module _ (low high : ℕ) (lp : 0 < low) (lh : low ≤ high) (sequence : List ℕ) (A : AllSets sequence) (B : BySize places sequence) where
    abbrev find : ℕ → ℕ → Option (List ℕ)
    find = quanta_for jobs low high

    abbrev find_first : ℕ → ℕ → Option (List ℕ)
    find_first = quanta_by (first_bound jobs) n low high

    abbrev taken : ℕ → ℕ
    taken = chosen find sequence

    -- A job that cannot be taken alone has no bound alone.
    not-alone : (r k : ℕ) (q : List ℕ) → k < n → has r k ≡ true → find r (single k) ≡ none → bound jobs q (has (single k)) (has (rest r (single k))) k ≡ 0
    not-alone r k q l e f = elim (dec_le (bound jobs q (has (single k)) (has (rest r (single k))) k) 0) [
      | yes h ↦ omega arith
      | no h ↦ absurd ((per-job jobs costs low high lp lh).fails r (single k) (single_of r k l e) f (record {
        some = (k, l, single-own k (omega (arith, few)));
        sub = (single_of r k l e).1;
        quanta = q;
        permit = λ i il x. inl (λ j jl y. single-alone k l j jl y ∙ sym (single-alone k l i il x));
        served = λ i il x. rw (single-alone k l i il x) (served-drop jobs costs q (has (single k)) (has (single k)) (has (rest r (single k)))
            (but (has r) (has (single k))) k l (λ j jl y. y) (λ j jl y. has_rest j r (single k) ∙ y) (omega arith));
      }))
    ]

    second-zero : (r s k : ℕ) (q : List ℕ) → Of n r s → k < n → has s k ≡ true → find r (single k) ≡ none → second_bound jobs q (has s) (has (rest r s)) k ≡ 0
    second-zero r s k q o l e f = second-is-alone r s k q q o l e ∙ not-alone r k q l (o.1 k l e) f

    -- ---- the same quanta are found

    same-found : (r s : ℕ)
        → ((q : List ℕ) (k : ℕ) → k < n → has s k ≡ true → bound jobs q (has s) (has (rest r s)) k ≡ first_bound jobs q (has s) (has (rest r s)) k)
        → find r s ≡ find_first r s
    unfolding quanta_by serves_by
    same-found r s h = ap (smallest (quantum_ranges low high (has s) n)) (fun_ext (λ q. every-same _ _ n (λ k l. go q k (has s k) (h q k l))))
      where
        go : (q : List ℕ) (k : ℕ) (b : Bool) → (b ≡ true → bound jobs q (has s) (has (rest r s)) k ≡ first_bound jobs q (has s) (has (rest r s)) k)
            → (not b || ltb 0 (bound jobs q (has s) (has (rest r s)) k)) ≡ (not b || ltb 0 (first_bound jobs q (has s) (has (rest r s)) k))
        go q k true f = ap (ltb 0) (f refl)
        go q k false f = refl

    one-bound : (r s k : ℕ) (q : List ℕ) → s < 2 ^ n → size s ≡ 1 → has s k ≡ true → bound jobs q (has s) (has (rest r s)) k ≡ first_bound jobs q (has s) (has (rest r s)) k
    one-bound r s k q b o e = first_alone jobs k q (has s) (has (rest r s)) (λ i il x. size-one n s b o i k x e)

    module _ (r : ℕ) (rl : r < 2 ^ n) where
      abbrev tried : List ℕ
      tried = subsets r sequence

      abbrev test : ℕ → Bool
      test s = is_found (find r s)

      rising : Rising tried
      unfolding subsets
      rising = keep-pairwise _ (λ s. within s r) sequence B.rising

      tried_of : (s : ℕ) → Memᴰ s tried → Of n r s × (0 < s)
      unfolding subsets
      tried_of s m =
          let w = keep_out (λ s. within s r) sequence s m in
          ((omega (arith, within-le s r w.1), λ i il x. within_has s r w.1 i x), (A.only s w.0).0)

      single-in : (k : ℕ) → k < n → has r k ≡ true → Memᴰ (single k) tried
      unfolding subsets
      single-in k l e =
          let s = single k in
          keep-in (λ s. within s r) sequence s
          (A.each s (has-pos s k (single-own k (omega (arith, few)))) (single-lt places k (omega (arith, few)) (le_refl places)))
          (has_within n s r (single-lt n k l few) (single_of r k l e).1)

      -- Both find the same for a set, or a job of it can be taken alone.
      either : (s : ℕ) → Memᴰ s tried → (find r s ≡ find_first r s) ⊎ Smaller test tried s
      either s m = elim (ℕ_discrete (size s) 1) [
        | yes o ↦ inl (same-found r s (λ q k l e. one-bound r s k q w.0.0 o e))
        | no o ↦ ⊎_elim
            (λ v. let e = (and-eq-true_iff (has s v.0) (test (single v.0))).0 v.2 in
            inr (
              single v.0,
              single-in v.0 v.1 (w.0.1 v.0 v.1 e.0),
              omega (arith, single-size v.0 (omega (arith, v.1, few)), size-pos n s w.0.0 w.1, o),
              e.1,
            ))
            (λ v. inl (same-found r s (λ q k l e. second_none jobs k q (has s) (has (rest r s))
            (second-zero r s k q w.0 l e (not_found (find r (single k)) (sym (ap (λ (b : Bool). b && test (single k)) e) ∙ v k l))))))
            (some_or_none (λ k. has s k && test (single k)) n)
      ]
        where
          w : Of n r s × (0 < s)
          w = tried_of s m

      same_taken : (taken r ≡ chosen find_first sequence r) × (considered test tried ≡ considered (λ s. is_found (find_first r s)) tried)
      same_taken = agree test (λ s. is_found (find_first r s)) tried rising (λ s m. ⊎_elim (λ e. inl (ap is_found e)) inr (either s m))

      found-taken : 0 < taken r → find r (taken r) ≡ find_first r (taken r)
      found-taken p = ⊎_elim (λ e. e) (λ w. absurd (omega (arith, first-least test tried rising w.0 w.1 w.3, w.2))) (either (taken r) (taken_in test tried p))

      -- A set of two or more is taken only where every second bound is 0.
      pub taken-second : 2 ≤ size (taken r) → (k : ℕ) (q : List ℕ) → k < n → has (taken r) k ≡ true → second_bound jobs q (has (taken r)) (has (rest r (taken r))) k ≡ 0
      taken-second two k q l e =
          let o = (tried_of (taken r) (taken_in test tried (has-pos (taken r) k e))).0 in
          second-zero r (taken r) k q o l e (not_found (find r (single k)) (go (test (single k)) refl (o.1 k l e)))
        where
          go : (b : Bool) → test (single k) ≡ b → has r k ≡ true → test (single k) ≡ false
          go true f x = absurd (omega (arith, first-least test tried rising (single k) (single-in k l x) f, single-size k (omega (arith, few))))
          go false f x = f

      -- So each job that is taken has its first bound.
      pub taken-first : (k : ℕ) (q : List ℕ) → k < n → has (taken r) k ≡ true
          → bound jobs q (has (taken r)) (has (rest r (taken r))) k ≡ first_bound jobs q (has (taken r)) (has (rest r (taken r))) k
      taken-first k q l e =
          let w = tried_of (taken r) (taken_in test tried (has-pos (taken r) k e)) in
          elim (ℕ_discrete (size (taken r)) 1) [
            | yes o ↦ one-bound r (taken r) k q w.0.0 o e
            | no o ↦ second_none jobs k q (has (taken r)) (has (rest r (taken r))) (taken-second (omega (arith, size-pos n (taken r) w.0.0 w.1, o)) k q l e)
          ]

    -- ---- all levels

    -- A set that is taken is placed alike.
    module _ (level : ℕ) (stage : Stage) (b : stage.left < 2 ^ n) (q : List ℕ) where
      abbrev own : ℕ
      own = taken stage.left

      abbrev over : ℕ
      over = rest stage.left own

      same-bound : (k : ℕ) → k < n → (c : Bool) → has own k ≡ c
          → cond (has own k) (bound jobs q (has own) (has over) k) (get_or stage.bounds k 0) ≡ cond (has own k) (first_bound jobs q (has own) (has over) k) (get_or stage.bounds k 0)
      same-bound k l true e = ap (λ (x : ℕ). cond (has own k) x (get_or stage.bounds k 0)) (taken-first stage.left b k q l e)
      same-bound k l false e = rw e

      same-placed : place jobs level own q stage ≡ place_by (first_bound jobs) jobs level own q stage
      unfolding place_by
      same-placed =
          let placed = place jobs level own q stage in
          ap (λ (bounds : List ℕ). record { left = placed.left; settings = placed.settings; bounds = bounds }) (list_same _ _ n (λ k l. same-bound k l (has own k) refl))

    same-stages : (level : ℕ) (stage : Stage) → stage.left < 2 ^ n → plan_from jobs find sequence level stage ≡ plan_from_by (first_bound jobs) jobs find_first sequence level stage
    unfolding plan_from_by place_by
    same-stages zero stage b = refl
    same-stages (suc level) stage b = elim (ℕ_discrete (taken stage.left) 0) [
      | yes z ↦
          plan-stops (bound jobs) jobs find sequence level stage z
          ∙ sym (plan-stops (first_bound jobs) jobs find_first sequence level stage (sym (same_taken stage.left b).0 ∙ z))
      | no z ↦
          let r = stage.left in
          let s = taken r in
          let p : 0 < s = omega arith in
          plan-goes (bound jobs) jobs find sequence level stage s refl p
          ∙ ap (λ (o : Option (List ℕ)). plan_from jobs find sequence level (place jobs (suc level) s (quanta_in o) stage)) (found-taken r b p)
          ∙ ap (plan_from jobs find sequence level) (same-placed (suc level) stage b (quanta_in (find_first r s)))
          ∙ same-stages level (place_by (first_bound jobs) jobs (suc level) s (quanta_in (find_first r s)) stage) (rest_lt n r s b)
          ∙ sym (plan-goes (first_bound jobs) jobs find_first sequence level stage s (sym (same_taken r b).0) p)
    ]

    same_count : (levels r : ℕ) → r < 2 ^ n
        → considered_count (λ left s. is_found (find left s)) sequence levels r ≡ considered_count (λ left s. is_found (find_first left s)) sequence levels r
    same_count zero r b = considered-none _ sequence r ∙ sym (considered-none _ sequence r)
    same_count (suc levels) r b = elim (ℕ_discrete (taken r) 0) [
      | yes z ↦
          considered-stops _ sequence levels r z ∙ ap length (same_taken r b).1
          ∙ sym (considered-stops _ sequence levels r (sym (same_taken r b).0 ∙ z))
      | no z ↦
          let p : 0 < taken r = omega arith in
          considered-goes _ sequence levels r (taken r) refl p
          ∙ ap₂ (λ (x y : ℕ). x + y) (ap length (same_taken r b).1) (same_count levels (rest r (taken r)) (rest_lt n r (taken r) b))
          ∙ sym (considered-goes _ sequence levels r (taken r) (sym (same_taken r b).0) p)
    ]

    -- The plan by both bounds is the one by first bounds alone.
    pub same-plan : plan_by jobs find sequence ≡ plan_over (first_bound jobs) jobs find_first sequence
    unfolding start
    same-plan =
        ap₂ (λ (end : Stage) (count : ℕ). record { placed = rest (first_jobs n) end.left; considered = count; settings = end.settings; bounds = end.bounds })
        (same-stages n (start jobs) (start-less jobs few)) (same_count n (first_jobs n) (start-less jobs few))

  -- So the planner's answers stay.
  pub keys-stay : (low high : ℕ) → 0 < low → low ≤ high → plan jobs low high ≡ plan_with (first_bound jobs) jobs low high
  unfolding plan
  keys-stay low high lp lh = same-plan low high lp lh (by_periods jobs) (periods-all jobs) (periods-by-size jobs)
