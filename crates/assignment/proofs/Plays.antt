-- The planner's rule, level by level: it plays until no set can be taken. Assumes nothing.
use Prim.Native.Nat.{ℕ, zero, suc, ◌^◌, ◌≤◌, ◌<◌}
use mathlib.Core.Path.{◌≡◌, refl, sym, ap, ◌∙◌}
use mathlib.Core.Bool.{Bool, true, false, false≢true}
use mathlib.Core.Logic.{◌⊎◌, inl, inr, ⊎_elim}
use mathlib.Core.List.Memᴰ
use mathlib.Core.List.{List, Memᴰ}
use mathlib.Core.Option.{Option, none, some}
use native.Mathlib.Decide.{ℕ_discrete}
use native.Mathlib.Omega.{arith}
use lib.ListN.{length}
use lib.Pow.{pow_mono}
use borrow.Author.Tests.{eq-eqb, ne_eqb}
use Rattle.sets.specs.Sets.{Set, places, has, within, size, Sub}
use Rattle.sets.specs.Order.{subsets}
use Rattle.sets.proofs.Members.{has_rest, has-none, has-pos, number, number_lt, has-number}
use Rattle.sets.proofs.Parts.{within_has, has_within, within-le, rest_lt, size-pos, size-rest}
use Rattle.sets.proofs.Ordering.{keep-in, keep_out}
use Rattle.sets.proofs.Considering.{Tried, Took, tried-or-took}
use Rattle.records.specs.declared.job.Job.{Job}
use Rattle.response.specs.Demand.{ResponseTest, bound}
use Rattle.assignment.specs.Takeable.{Served, TakeableBy}
use Rattle.assignment.specs.Plan.{is_found, quanta_in, Stage, chosen, place, place_by, plan_from, plan_from_by}
use Rattle.assignment.proofs.Serving.{Costs}
use Rattle.assignment.proofs.Taking.{Of, Finds, served-drop, can-take}
use Rattle.assignment.proofs.Optimal.{Play, done, next, Stuck, take_same}

-- ---- one level

module _ (test : ResponseTest) (jobs : List Job) (find : ℕ → ℕ → Option (List ℕ)) (sequence : List ℕ) (level : ℕ) (stage : Stage) where
  pub plan-stops : chosen find sequence stage.left ≡ 0 → plan_from_by test jobs find sequence (suc level) stage ≡ stage
  unfolding plan_from_by
  plan-stops e = rw (eq-eqb _ 0 e, plan_from_by)

  pub plan-goes : (s : ℕ) → chosen find sequence stage.left ≡ s → 0 < s
      → plan_from_by test jobs find sequence (suc level) stage ≡ plan_from_by test jobs find sequence level (place_by test jobs (suc level) s (quanta_in (find stage.left s)) stage)
  unfolding plan_from_by
  plan-goes s e p =
      rw (ne_eqb (chosen find sequence stage.left) 0 (λ z. omega arith), plan_from_by)
      (ap (λ (x : ℕ). plan_from_by test jobs find sequence level (place_by test jobs (suc level) x (quanta_in (find stage.left x)) stage)) e)

-- A sequence of all sets of eight jobs and of nothing else, in whatever order.
pub record AllSets (sequence : List ℕ) : Type 0 where
  pub only : (s : ℕ) → Memᴰ s sequence → (0 < s) × (s < 2 ^ places)
  pub each : (s : ℕ) → 0 < s → s < 2 ^ places → Memᴰ s sequence

module _
    (jobs : List Job) (costs : Costs jobs) (low high : ℕ) (Permit : List ℕ → Set → Type 0) (find : ℕ → ℕ → Option (List ℕ)) (F : Finds jobs low high Permit find)
    (few : length jobs ≤ places) (sequence : List ℕ) (A : AllSets sequence)
  where
    abbrev n : ℕ
    n = length jobs

    abbrev Take : Set → Set → Type 0
    Take = TakeableBy jobs Permit

    abbrev tests : ℕ → ℕ → Bool
    tests r s = is_found (find r s)

    -- The set that is taken.
    pub record Taken (r : ℕ) : Type 0 where
      pub set : ℕ
      pub quanta : List ℕ
      pub chosen : chosen find sequence r ≡ set
      pub pos : 0 < set
      pub of : Of n r set
      pub inside : within set r ≡ true
      pub found : find r set ≡ some quanta
      pub take : Take (has r) (has set)

    pub record NoneTaken (r : ℕ) : Type 0 where
      pub chosen : chosen find sequence r ≡ 0
      pub stuck : Stuck Take (has r)

    -- No set of the order can be taken: then none can.
    none-takeable : (r : ℕ) → Tried (tests r) (subsets r sequence) → Stuck Take (has r)
    unfolding subsets
    none-takeable r w s t =
        let x = number s n in
        let xs : Sub n (has x) s = λ i l y. sym (has-number s n i l) ∙ y in
        let sx : Sub n s (has x) = λ i l y. has-number s n i l ∙ y in
        let h : Sub n (has x) (has r) = λ i l y. t.sub i l (xs i l y) in
        let p : 0 < x = has-pos x t.some.0 (sx t.some.0 t.some.1 t.some.2) in
        let listed = keep-in (λ y. within y r) sequence x (A.each x p (omega (arith, number_lt s n, pow_mono few))) (has_within n x r (number_lt s n) h) in
        F.fails r x (number_lt s n, h) (not_found (find r x) (w.each x listed))
        (take_same n (List ℕ) Permit (Served jobs) F.drop (served-drop jobs costs) (has r) (has r) s (has x) (λ i l y. y) (λ i l y. y) sx xs t)
      where
        not_found : (o : Option (List ℕ)) → is_found o ≡ false → o ≡ none
        not_found none e = refl
        not_found (some q) e = absurd (false≢true (sym e))

    some-taken : (r : ℕ) → r < 2 ^ n → Took (tests r) (subsets r sequence) → Taken r
    unfolding subsets
    some-taken r rl w =
        let listed = keep_out (λ y. within y r) sequence w.set (rw w.split (Memᴰ.append_right w.before (Memᴰ.head refl))) in
        let p = (A.only w.set listed.0).0 in
        let o : Of n r w.set = (omega (arith, within-le w.set r listed.1), λ i l x. within_has w.set r listed.1 i x) in
        let q = quanta_in (find r w.set) in
        let e = is_found_lem (find r w.set) w.taken in
        record {
          set = w.set;
          quanta = q;
          chosen = w.first;
          pos = p;
          of = o;
          inside = listed.1;
          found = e;
          take = can-take jobs costs low high Permit find F r w.set q p o e;
        }
      where
        is_found_lem : (o : Option (List ℕ)) → is_found o ≡ true → o ≡ some (quanta_in o)
        is_found_lem none e = absurd (false≢true e)
        is_found_lem (some q) e = refl

    pub step : (r : ℕ) → r < 2 ^ n → NoneTaken r ⊎ Taken r
    step r rl = ⊎_elim (λ w. inl (record { chosen = w.first; stuck = none-takeable r w })) (λ w. inr (some-taken r rl w)) (tried-or-took (tests r) (subsets r sequence))

    -- ---- all levels

    abbrev Ends : Stage → Stage → Type 0
    Ends stage end = Play n Take (has stage.left) (has end.left) × Stuck Take (has end.left)

    pub plays : (level : ℕ) (stage : Stage) → stage.left < 2 ^ n → size stage.left ≤ level → Ends stage (plan_from jobs find sequence level stage)
    unfolding plan_from_by place_by
    plays zero stage b few-left = (done, λ s t. empty t.some.0 (t.sub t.some.0 t.some.1 t.some.2))
      where
        empty : (k : ℕ) → has stage.left k ≡ true → ⊥
        empty k e = elim (ℕ_discrete stage.left 0) [
          | yes g ↦ false≢true (sym (has-none k) ∙ ap (λ (x : ℕ). has x k) (sym g) ∙ e)
          | no g ↦ omega (arith, size-pos n stage.left b (omega arith))
        ]
    plays (suc level) stage b few-left = go (step stage.left b) (plays level)
      where
        go : NoneTaken stage.left ⊎ Taken stage.left
            → ((stage : Stage) → stage.left < 2 ^ n → size stage.left ≤ level → Ends stage (plan_from jobs find sequence level stage))
            → Ends stage (plan_from jobs find sequence (suc level) stage)
        go (inl w) ih = rw (plan-stops (bound jobs) jobs find sequence level stage w.chosen) (done, w.stuck)
        go (inr w) ih =
            let r = stage.left in
            let next-stage = place jobs (suc level) w.set (quanta_in (find r w.set)) stage in
            let g = ih next-stage (rest_lt n r w.set b) (omega (arith, size-rest r w.set w.inside, size-pos n w.set w.of.0 w.pos)) in
            rw (plan-goes (bound jobs) jobs find sequence level stage w.set w.chosen w.pos) (next (has w.set) w.take (λ i l. has_rest i r w.set) g.0, g.1)
