-- The planner's rule keeps its guarantee, for any order of all sets by size and any rule on quanta that the allowed configurations keep.
-- Assumes nothing.
use Prim.Native.Nat.{ℕ, zero, suc, ◌-◌, ◌^◌, ◌≤◌, ◌<◌, min}
use mathlib.Core.Path.{◌≡◌, refl, sym, ap, ap₂, ◌∙◌}
use mathlib.Core.Bool.{Bool, true, false, not, ◌&&◌, ◌||◌, and-eq-true_iff, false≢true}
use mathlib.Core.Logic.{◌⊎◌, inl, inr, ⊎_elim}
use mathlib.Core.List.{List}
use mathlib.Core.Option.{Option}
use native.Mathlib.Nat.{le_refl}
use native.Mathlib.Decide.{ℕ_discrete}
use native.Mathlib.Omega.{arith}
use lib.Dec.{ltb}
use lib.ListN.{length, get_or}
use lib.Pow.{pow_pos}
use lib.Seq.{ext_get_or}
use borrow.Author.Tests.{eqb-true, ltb-true, ltb-false, lt-ltb}
use Rattle.response.specs.Demand.{bound}
use Rattle.sets.specs.Places.{every}
use Rattle.sets.specs.Sets.{Set, places, has, size, first_jobs, Alone}
use Rattle.sets.specs.Order.{BySize, order}
use Rattle.sets.proofs.Places.{list_at, list_length, every-at, every_of, fails-at}
use Rattle.sets.proofs.Members.{has_rest, has-full, has_some, has-none}
use Rattle.sets.proofs.Parts.{rest_lt, size-full}
use Rattle.sets.proofs.Ordering.{order-in, order-out}
use Rattle.sets.proofs.Considering.{jobs-ceiling}
use Rattle.records.specs.Jobs.{job_at}
use Rattle.records.specs.declared.job.Job.{Job}
use Rattle.periods.specs.ByPeriods.{total, period_at, by_periods}
use Rattle.periods.proofs.Ruling.{by_in, by_out, by_size}
use Rattle.configuration.specs.declared.setting.Setting.{Setting}
use Rattle.configuration.specs.Settings.{blank_setting, setting_at, level_at}
use Rattle.configuration.specs.Configuration.{Configuration, is_placed, full}
use Rattle.configuration.specs.Shape.{Shape, unplaced, alone, shared, Shapes}
use Rattle.configuration.proofs.Shapes.{shapes, configuration}
use Rattle.marker.specs.Bounds.{quanta_of, layer_of, bound_at, bounds_of, is_served, passes}
use Rattle.marker.proofs.Configured.{bound-unplaced, bound-placed, quantum-at}
use Rattle.assignment.specs.Takeable.{Permitted, Served, TakeableBy}
use Rattle.assignment.specs.Plan.{is_found, quanta_in, Stage, setting_left, place, plan_from, plan_from_by, start, Plan, plan_by, quanta_for, plan}
use Rattle.assignment.specs.Guarantee.{left_by, GuaranteeOver, Guarantee}
use Rattle.assignment.proofs.Serving.{Costs}
use Rattle.assignment.proofs.Taking.{Finds, served-drop, per-job}
use Rattle.assignment.proofs.Optimal.{Play, Stuck, take_same, none_left}
use Rattle.assignment.proofs.Plays.{AllSets, Taken, NoneTaken, plan-stops, plan-goes, step, plays}
use Rattle.assignment.proofs.Placed.{Good, placed-good}

-- A layer of a configuration has its quanta in range, or is one job.
layers-permitted : (jobs : List Job) (low high : ℕ) (settings : List Setting) → Configuration jobs low high settings
    → (level : ℕ) → 0 < level → Permitted (length jobs) low high (quanta_of settings) (layer_of settings level)
layers-permitted jobs low high settings C level p k l e = go ((shapes jobs low high settings C).shape k l)
  where
    go : Shape (length jobs) low high settings k
        → Alone (length jobs) (layer_of settings level) k ⊎ ((low ≤ get_or (quanta_of settings) k 0) × (get_or (quanta_of settings) k 0 ≤ high))
    go (unplaced a b c) = absurd (omega (arith, eqb-true (level_at settings k) level e))
    go (alone a b c d f) = inl (λ i il x. f i il (eqb-true (level_at settings i) level x ∙ sym (eqb-true (level_at settings k) level e)))
    go (shared a b c d f i il x y) = inr (omega (arith, quantum-at settings k), omega (arith, quantum-at settings k))

-- ---- at the start

first-all : (n : ℕ) → n ≤ places → first_jobs n ≡ 2 ^ n - 1
unfolding first_jobs
first-all n few = let e : min n places ≡ n = omega arith in ap (λ (m : ℕ). 2 ^ m - 1) e

first-has : (n : ℕ) → n ≤ places → (k : ℕ) → k < n → has (first_jobs n) k ≡ true
first-has n few k l = ap (λ (x : ℕ). has x k) (first-all n few) ∙ has-full n k l

pub start-less : (jobs : List Job) → length jobs ≤ places → (start jobs).left < 2 ^ length jobs
unfolding start
start-less jobs few = omega (arith, first-all (length jobs) few, pow_pos (length jobs))

start-size : (jobs : List Job) → length jobs ≤ places → size (start jobs).left ≤ length jobs
unfolding start
start-size jobs few = omega (arith, ap size (first-all (length jobs) few), size-full (length jobs))

start-good : (jobs : List Job) (low high : ℕ) → length jobs ≤ places → Good jobs low high (length jobs) (start jobs)
unfolding start
start-good jobs low high few = record {
  less = start-less jobs few;
  settings = list_length (λ k. setting_left (job_at jobs k).id) (length jobs);
  bounds = list_length (λ (k : ℕ). 0) (length jobs);
  ids = λ k l. ap (λ (x : Setting). x.id) (list_at (λ i. setting_left (job_at jobs i).id) (length jobs) k blank_setting l);
  left = λ k l e. (list_at (λ i. setting_left (job_at jobs i).id) (length jobs) k blank_setting l, list_at (λ (i : ℕ). 0) (length jobs) k 0 l);
  level = λ k l e. absurd (false≢true (sym e ∙ first-has (length jobs) few k l));
  shape = λ k l e. absurd (false≢true (sym e ∙ first-has (length jobs) few k l));
  served = λ k l e. absurd (false≢true (sym e ∙ first-has (length jobs) few k l));
}

lower : (jobs : List Job) (low high v : ℕ) (stage : Stage) → Good jobs low high v stage → Good jobs low high 0 stage
lower jobs low high v stage G = record {
  less = G.less;
  settings = G.settings;
  bounds = G.bounds;
  ids = G.ids;
  left = G.left;
  level = λ k l e. omega (arith, G.level k l e);
  shape = G.shape;
  served = G.served;
}

or-false : (a b : Bool) → (not a || b) ≡ false → (a ≡ true) × (b ≡ false)
or-false true b e = (refl, e)
or-false false b e = absurd (false≢true (sym e))

module _
    (jobs : List Job) (costs : Costs jobs) (low high : ℕ) (Permit : List ℕ → Set → Type 0) (find : ℕ → ℕ → Option (List ℕ)) (F : Finds jobs low high Permit find)
    (few : length jobs ≤ places) (sequence : List ℕ) (A : AllSets sequence)
  where
    abbrev n : ℕ
    n = length jobs

    abbrev end : Stage
    end = plan_from jobs find sequence n (start jobs)

    abbrev answer : Plan
    answer = plan_by jobs find sequence

    -- ---- what holds of the configuration returned

    good : (v : ℕ) (stage : Stage) → v ≤ n → Good jobs low high v stage → Good jobs low high 0 (plan_from jobs find sequence v stage)
    unfolding plan_from_by
    good zero stage h G = G
    good (suc v) stage h G = go (step jobs costs low high Permit find F few sequence A stage.left G.less) (good v)
      where
        go : NoneTaken jobs costs low high Permit find F few sequence A stage.left ⊎ Taken jobs costs low high Permit find F few sequence A stage.left
            → ((stage : Stage) → v ≤ n → Good jobs low high v stage → Good jobs low high 0 (plan_from jobs find sequence v stage))
            → Good jobs low high 0 (plan_from jobs find sequence (suc v) stage)
        go (inl w) ih = rw (plan-stops (bound jobs) jobs find sequence v stage w.chosen) (lower jobs low high (suc v) stage G)
        go (inr w) ih =
            let r = stage.left in
            let s = w.set in
            let q = w.quanta in
            let e : quanta_in (find r s) ≡ q = ap quanta_in w.found in
            rw (plan-goes (bound jobs) jobs find sequence v stage s w.chosen w.pos, e)
            (ih (place jobs (suc v) s q stage) (omega arith)
            (placed-good jobs low high v h stage G s q w.of.0 w.of.1 (F.serves r s q w.of w.found) (F.range r s q w.of w.found)))

    pub end-good : Good jobs low high 0 end
    end-good = good n (start jobs) (le_refl n) (start-good jobs low high few)

    pub end-play : Play n (TakeableBy jobs Permit) (has (start jobs).left) (has end.left) × Stuck (TakeableBy jobs Permit) (has end.left)
    end-play = plays jobs costs low high Permit find F few sequence A n (start jobs) (start-less jobs few) (start-size jobs few)

    end-placed : (k : ℕ) → k < n → is_placed end.settings k ≡ not (has end.left k)
    end-placed k l = go (has end.left k) refl
      where
        by_shape : Shape n low high end.settings k → 0 < level_at end.settings k → 0 < (setting_at end.settings k).policy
        by_shape (unplaced a b c) h = absurd (omega arith)
        by_shape (alone a b c d e) h = omega arith
        by_shape (shared a b c d e i il x y) h = omega arith

        go : (b : Bool) → has end.left k ≡ b → is_placed end.settings k ≡ not (has end.left k)
        go true e = ap (λ (x : Setting). ltb 0 x.policy) (end-good.left k l e).0 ∙ sym (ap not e)
        go false e = lt-ltb 0 (setting_at end.settings k).policy (by_shape (end-good.shape k l e) (end-good.level k l e)) ∙ sym (ap not e)

    pub left_is : (k : ℕ) → k < n → left_by answer k ≡ has end.left k
    left_is k l = ap not (end-placed k l) ∙ twice (has end.left k)
      where
        twice : (b : Bool) → not (not b) ≡ b
        twice true = refl
        twice false = refl

    end-shapes : Shapes jobs low high end.settings
    end-shapes = record { size = end-good.settings; ids = end-good.ids; shape = λ k l. go k l (has end.left k) refl }
      where
        go : (k : ℕ) → k < n → (b : Bool) → has end.left k ≡ b → Shape n low high end.settings k
        go k l true e =
            let g = (end-good.left k l e).0 in
            unplaced (ap (λ (x : Setting). x.policy) g) (ap (λ (x : Setting). x.level) g) (ap (λ (x : Setting). x.quantum) g)
        go k l false e = end-good.shape k l e

    bound-is : (k : ℕ) → k < n → get_or end.bounds k 0 ≡ bound_at jobs end.settings k
    bound-is k l = go (has end.left k) refl
      where
        go : (b : Bool) → has end.left k ≡ b → get_or end.bounds k 0 ≡ bound_at jobs end.settings k
        go true e = let g = end-good.left k l e in g.1 ∙ sym (bound-unplaced jobs end.settings k (ap (λ (x : Setting). x.level) g.0))
        go false e = (end-good.served k l e).0 ∙ sym (bound-placed jobs end.settings k (λ z. omega (arith, end-good.level k l e)))

    end-served : (k : ℕ) → k < n → is_placed end.settings k ≡ true → 0 < bound_at jobs end.settings k
    end-served k l e = go (has end.left k) refl
      where
        go : (b : Bool) → has end.left k ≡ b → 0 < bound_at jobs end.settings k
        go true x = absurd (false≢true (sym (ap not x) ∙ sym (end-placed k l) ∙ e))
        go false x = rw (bound-is k l) at (end-good.served k l x).1

    end-passes : full jobs end.settings ≡ true → passes jobs end.settings ≡ true
    end-passes e =
        ap₂ ◌&&◌ e (every_of (is_served jobs end.settings) n (λ k l.
        lt-ltb 0 (bound_at jobs end.settings k) (end-served k l (every-at (is_placed end.settings) n e k l))))

    -- ---- what holds of every configuration

    -- It gives some job left bound 0, or there is none left.
    some-fails : (settings : List Setting) → ((level : ℕ) → 0 < level → Permit (quanta_of settings) (layer_of settings level))
        → (end.left ≡ 0) ⊎ ((k : ℕ) × (k < n) × (has end.left k ≡ true) × (bound_at jobs settings k ≡ 0))
    some-fails settings permitted = go (fails-at test n)
      where
        test : ℕ → Bool
        test k = not (has end.left k) || ltb 0 (bound_at jobs settings k)

        fine : ((i : ℕ) → i < n → test i ≡ true) → (k : ℕ) → k < n → has end.left k ≡ true → 0 < bound_at jobs settings k
        fine h k l e = ltb-true 0 (bound_at jobs settings k) (sym (ap (λ (b : Bool). not b || ltb 0 (bound_at jobs settings k)) e) ∙ h k l)

        on-level : (k : ℕ) → 0 < bound_at jobs settings k → 0 < level_at settings k
        on-level k h = elim (ℕ_discrete (level_at settings k) 0) [ yes e ↦ absurd (omega (arith, bound-unplaced jobs settings k e)) | no e ↦ omega arith ]

        go : ((i : ℕ) → i < n → test i ≡ true) ⊎ ((i : ℕ) × (i < n) × (test i ≡ false))
            → (end.left ≡ 0) ⊎ ((k : ℕ) × (k < n) × (has end.left k ≡ true) × (bound_at jobs settings k ≡ 0))
        go (inl h) = inl (elim (ℕ_discrete end.left 0) [
          | yes e ↦ e
          | no e ↦
              let w = has_some n end.left end-good.less (omega arith) in
              absurd (none_left n (List ℕ) Permit (Served jobs) F.drop (served-drop jobs costs)
              (has end.left) end-play.1 (quanta_of settings) (level_at settings) permitted
              (λ k l x. let f = fine h k l x in (on-level k f, rw (bound-placed jobs settings k (λ z. omega (arith, on-level k f))) at f)) w.0 w.1 w.2)
        ])
        go (inr w) =
            let b = or-false (has end.left w.0) (ltb 0 (bound_at jobs settings w.0)) w.2 in
            inr (w.0, w.1, b.0, omega (arith, ltb-false 0 (bound_at jobs settings w.0) b.1))

    none-full : end.left ≡ 0 → full jobs end.settings ≡ true
    none-full e = every_of (is_placed end.settings) n (λ k l. end-placed k l ∙ ap (λ (x : ℕ). not (has x k)) e ∙ ap not (has-none k))

    module _
        (Allowed : List Setting → Type 0)
        (keeps : (settings : List Setting) → Allowed settings → (level : ℕ) → 0 < level → Permit (quanta_of settings) (layer_of settings level))
        (allows : Shapes jobs low high end.settings → Allowed end.settings)
      where
        fails : full jobs end.settings ≡ false → (settings : List Setting) → Allowed settings
            → (k : ℕ) × (k < n) × (left_by answer k ≡ true) × (bound_at jobs settings k ≡ 0)
        fails e settings a = ⊎_elim
            (λ z. absurd (false≢true (sym e ∙ none-full z)))
            (λ w. (w.0, w.1, left_is w.0 w.1 ∙ w.2, w.3)) (some-fails settings (keeps settings a))

        some-passes : (settings : List Setting) × Allowed settings × (passes jobs settings ≡ true) → full jobs end.settings ≡ true
        some-passes w = go (full jobs end.settings) refl
          where
            served : every (is_served jobs w.0) n ≡ true
            served = ((and-eq-true_iff (full jobs w.0) (every (is_served jobs w.0) n)).0 w.2).1

            go : (b : Bool) → full jobs end.settings ≡ b → full jobs end.settings ≡ true
            go true e = e
            go false e =
                let f = fails e w.0 w.1 in
                absurd (omega (arith, f.3, ltb-true 0 (bound_at jobs w.0 f.0) (every-at (is_served jobs w.0) n served f.0 f.1)))

        guaranteed : BySize places sequence → GuaranteeOver jobs Allowed Permit answer
        guaranteed B = record {
          allowed = allows end-shapes;
          bounds = ext_get_or 0 end.bounds (bounds_of jobs end.settings) (end-good.bounds ∙ sym (list_length (bound_at jobs end.settings) n))
              (λ i l. let il : i < n = omega (arith, end-good.bounds) in bound-is i il ∙ sym (list_at (bound_at jobs end.settings) n i 0 il));
          placed = λ k l. has_rest k (first_jobs n) end.left ∙ ap (λ (b : Bool). b && not (has end.left k)) (first-has n few k l) ∙ sym (end-placed k l);
          all = (λ e. (end.settings, allows end-shapes, end-passes e), some-passes);
          returned = end-passes;
          served = end-served;
          last = λ s t. end-play.1 s (take_same n (List ℕ) Permit (Served jobs) F.drop (served-drop jobs costs) (left_by answer) (has end.left) s s
              (λ i l x. sym (left_is i l) ∙ x) (λ i l x. left_is i l ∙ x) (λ i l x. x) (λ i l x. x) t);
          fails = fails;
          ceiling = jobs-ceiling (λ left s. is_found (find left s)) sequence B n few;
        }

-- ---- the two orders

-- 01's.
pub number-all : AllSets order
unfolding order
number-all = record { only = order-out places; each = order-in places }

-- E7's.
module _ (jobs : List Job) where
  pub periods-all : AllSets (by_periods jobs)
  unfolding by_periods
  periods-all = record { only = by_out (total (period_at jobs)) places; each = by_in (total (period_at jobs)) places }

  pub periods-by-size : BySize places (by_periods jobs)
  unfolding by_periods
  periods-by-size = by_size (total (period_at jobs)) places

-- ---- the planner's rule

-- Demand 3 of the planner's rule.
pub plan-guaranteed : (jobs : List Job) → Costs jobs → length jobs ≤ places → (low high : ℕ) → 0 < low → low ≤ high → Guarantee jobs low high (plan jobs low high)
unfolding plan
plan-guaranteed jobs costs few low high lp lh =
    guaranteed jobs costs low high (Permitted (length jobs) low high) (quanta_for jobs low high) (per-job jobs costs low high lp lh) few (by_periods jobs) (periods-all jobs)
    (Configuration jobs low high) (layers-permitted jobs low high) (configuration jobs low high _) (periods-by-size jobs)

-- Its placed set is one of the list's jobs.
pub placed_less : (jobs : List Job) → length jobs ≤ places → (low high : ℕ) → (plan jobs low high).placed < 2 ^ length jobs
unfolding plan start
placed_less jobs few low high = rest_lt (length jobs) (first_jobs (length jobs)) (plan_from jobs (quanta_for jobs low high) (by_periods jobs) (length jobs) (start jobs)).left (start-less jobs few)
