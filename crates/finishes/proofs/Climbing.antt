-- The iteration finds the least time that equals its demand, with any estimate that no such time lies below. Assumes nothing.
use mathlib.Core.Path.{◌≡◌, refl, sym, ◌∙◌, ap, ap₂}
use mathlib.Core.Bool.{Bool, cond}
use mathlib.Core.List.{List}
use Prim.Native.Nat.{ℕ, zero, suc, ◌+◌, ◌*◌, ◌/◌, ◌≤◌, ◌<◌, max}
use native.Mathlib.Decide.{dec_le, ℕ_discrete}
use native.Mathlib.Omega.{arith}
use borrow.Author.Tests.{eq-eqb, ne_eqb, le-leb, lt-leb, lt-ltb, le-ltb}
use Rattle.sets.specs.Sets.{Set}
use Rattle.records.specs.declared.job.Job.{Job}
use Rattle.response.specs.Demand.{interference, least}
use Rattle.finishes.specs.Finishes.{whole, steps, climb, far_time, time_from, time_for, longest_time, time_within, work_by}
use Rattle.finishes.specs.declared.capacity.Table.{Table}
use Rattle.response.proofs.Least.{Rising, least-found, least-is, least-none, covered}

module _ (f g : ℕ → ℕ) (d : ℕ) where
  -- ---- one step

  climb-past : (n t : ℕ) → d < t → climb f g d (suc n) t ≡ 0
  unfolding climb
  climb-past n t h = simp (lt-leb t d h)

  climb-found : (n t : ℕ) → t ≤ d → f t ≡ t → climb f g d (suc n) t ≡ t
  unfolding climb
  climb-found n t h e = simp (le-leb t d h, le-ltb t (f t) (omega arith), eq-eqb (f t) t e)

  climb-falls : (n t : ℕ) → t ≤ d → f t < t → climb f g d (suc n) t ≡ 0
  unfolding climb
  climb-falls n t h l = simp (le-leb t d h, le-ltb t (f t) (omega arith), ne_eqb (f t) t (λ e. omega arith))

  climb-rises : (n t : ℕ) → t ≤ d → t < f t → climb f g d (suc n) t ≡ climb f g d n (max (f t) (g t))
  unfolding climb
  climb-rises n t h l = simp (le-leb t d h, lt-ltb t (f t) l)

  -- Once there are enough steps, more make no difference.
  climb-enough : (n m t : ℕ) → d < n + t → d < m + t → climb f g d n t ≡ climb f g d m t
  unfolding climb
  climb-enough zero zero t hn hm = refl
  climb-enough zero (suc m) t hn hm = sym (climb-past m t (omega arith))
  climb-enough (suc n) zero t hn hm = climb-past n t (omega arith)
  climb-enough (suc n) (suc m) t hn hm = elim (dec_le t d) [
    | no h ↦ climb-past n t (omega arith) ∙ sym (climb-past m t (omega arith))
    | yes h ↦ elim (dec_le (f t) t) [
      | no l ↦
          climb-rises n t h (omega arith) ∙ climb-enough n m (max (f t) (g t)) (omega arith) (omega arith)
          ∙ sym (climb-rises m t h (omega arith))
      | yes l ↦ elim (ℕ_discrete (f t) t) [
        | yes e ↦ climb-found n t h e ∙ sym (climb-found m t h e)
        | no e ↦ climb-falls n t h (omega arith) ∙ sym (climb-falls m t h (omega arith))
      ]
    ]
  ]

  -- Every demand is past the end: none is found.
  pub climb-beyond : ((x : ℕ) → d < f x) → (n t : ℕ) → climb f g d n t ≡ 0
  unfolding climb
  climb-beyond h zero t = refl
  climb-beyond h (suc n) t = elim (dec_le t d) [
    | yes l ↦ climb-rises n t l (omega (arith, h t)) ∙ climb-beyond h n (max (f t) (g t))
    | no l ↦ climb-past n t (omega arith)
  ]

  -- ---- the loop of the code

  pub loop-past : {t : ℕ} → d < t → climb f g d (suc d) t ≡ 0
  loop-past {t} h = climb-past d t h

  pub loop-found : {t : ℕ} → t ≤ d → f t ≡ t → climb f g d (suc d) t ≡ t
  loop-found {t} h e = climb-found d t h e

  pub loop-falls : {t : ℕ} → t ≤ d → f t ≤ t → (f t ≡ t → ⊥) → climb f g d (suc d) t ≡ 0
  loop-falls {t} h l e = climb-falls d t h (omega (arith, l, e))

  pub loop-rises : {t : ℕ} → t ≤ d → t < f t → climb f g d (suc d) t ≡ climb f g d (suc d) (max (f t) (g t))
  loop-rises {t} h l = climb-rises d t h l ∙ climb-enough d (suc d) (max (f t) (g t)) (omega arith) (omega arith)

-- ---- plain steps

module _ (f : ℕ → ℕ) (d : ℕ) where
  pub steps-none : (t : ℕ) → steps f d 0 t ≡ t
  unfolding steps
  steps-none t = refl

  pub steps-past : (n : ℕ) {t : ℕ} → d < t → steps f d n t ≡ t
  unfolding steps
  steps-past zero {t} h = refl
  steps-past (suc n) {t} h = simp (lt-leb t d h)

  pub steps-end : (n : ℕ) {t : ℕ} → f t ≤ t → steps f d n t ≡ t
  unfolding steps
  steps-end zero {t} h = refl
  steps-end (suc n) {t} h = elim (dec_le t d) [
    | yes l ↦ simp (le-leb t d l, le-ltb t (f t) h)
    | no l ↦ steps-past (suc n) (omega arith)
  ]

  pub steps_on : (n : ℕ) {t : ℕ} → t ≤ d → t < f t → steps f d (suc n) t ≡ steps f d n (f t)
  unfolding steps
  steps_on n {t} l h = simp (le-leb t d l, lt-ltb t (f t) h)

  -- ---- from a time below every time that equals its demand

  pub record Below (t : ℕ) : Type 0 where
    pub least : (x : ℕ) → 1 ≤ x → x ≤ d → f x ≡ x → t ≤ x

  -- So is 0, and the later of two such times.
  pub below-zero : Below 0
  below-zero = record { least = λ x h l e. omega arith }

  pub below-later : {t u : ℕ} → Below t → Below u → Below (max t u)
  below-later {t} {u} a b = record { least = λ x h l e. omega (arith, a.least x h l e, b.least x h l e) }

  module _ (R : Rising f) where
    below_next : {t : ℕ} → Below t → Below (f t)
    below_next {t} b = record { least = λ x h l e. omega (arith, R.mono t x (b.least x h l e), e) }

    -- Such a time does not exceed its demand.
    below-rises : {t : ℕ} → 1 ≤ t → t ≤ d → Below t → t ≤ f t
    below-rises {t} p h b = elim (dec_le t (f t)) [
      | yes l ↦ l
      | no l ↦
          let w = covered f R d t p h (omega arith) in
          let v = least-found f d 1 w.0 in
          let e : least f d 1 ≡ t = omega (arith, w.1, b.least (least f d 1) v.1 (omega (arith, v.2)) v.0) in
          absurd (l (let q : f t ≡ t = rw e at v.0 in omega arith))
    ]

    pub steps-below : (n : ℕ) {t : ℕ} → 1 ≤ t → Below t → (1 ≤ steps f d n t) × Below (steps f d n t)
    steps-below zero {t} p b = rw (steps-none t) (p, b)
    steps-below (suc n) {t} p b = elim (dec_le t d) [
      | no h ↦ rw (steps-past (suc n) {t = t} (omega arith)) (p, b)
      | yes h ↦ elim (dec_le (f t) t) [
        | yes l ↦ rw (steps-end (suc n) l) (p, b)
        | no l ↦ rw (steps_on n h (omega arith)) (steps-below n (omega arith) (below_next b))
      ]
    ]

    -- With an estimate that no such time from t on lies below.
    module _ (g : ℕ → ℕ) (low : (t x : ℕ) → t ≤ x → f x ≡ x → g t ≤ x) where
      climb-least : (n t : ℕ) → 1 ≤ t → d < n + t → Below t → climb f g d n t ≡ least f d 1
      unfolding climb
      climb-least zero t p h b = sym (least-none f d 1 (λ x l k e. omega (arith, b.least x l (omega arith) e)))
      climb-least (suc n) t p h b = elim (dec_le t d) [
        | no k ↦ climb-past f g d n t (omega arith) ∙ sym (least-none f d 1 (λ x l m e. omega (arith, b.least x l (omega arith) e)))
        | yes k ↦ elim (ℕ_discrete (f t) t) [
          | yes e ↦ climb-found f g d n t k e ∙ sym (least-is f d 1 t p (omega arith) e (λ x l m q. omega (arith, b.least x l (omega arith) q)))
          | no e ↦
              let up : t < f t = omega (arith, below-rises p k b, e) in
              let estimated : Below (g t) = record { least = λ x l m q. low t x (b.least x l m q) q } in
              climb-rises f g d n t k up ∙ climb-least n (max (f t) (g t)) (omega arith) (omega arith) (below-later (below_next b) estimated)
        ]
      ]

      pub loop-least : {t : ℕ} → 1 ≤ t → Below t → climb f g d (suc d) t ≡ least f d 1
      loop-least {t} p b = climb-least (suc d) t p (omega arith) b

-- ---- how the search starts

module _ (w : Table) (above : Set) (spare carry own d before : ℕ) where
  pub time-idle : own ≡ 0 → time_for w above spare carry own d before ≡ time_from w above own d (max 1 before)
  unfolding time_for
  time-idle e = rw (eq-eqb own 0 e)

  pub time-full : (own ≡ 0 → ⊥) → spare ≡ 0 → time_for w above spare carry own d before ≡ 0
  unfolding time_for
  time-full e h = rw (ne_eqb own 0 e, eq-eqb spare 0 h)

  pub time-start : (own ≡ 0 → ⊥) → (spare ≡ 0 → ⊥) → time_for w above spare carry own d before ≡ time_from w above own d (max ((own * whole + carry) / spare) before)
  unfolding time_for
  time-start e h = rw (ne_eqb own 0 e, ne_eqb spare 0 h)

  -- More own demand than the limit: there is none.
  pub time-beyond : d < own → time_for w above spare carry own d before ≡ 0
  unfolding time_from far_time
  time-beyond h =
      let past : (t : ℕ) → time_from w above own d t ≡ 0 = λ t. climb-beyond _ _ d (λ x. omega arith) (suc d) _ in
      elim (ℕ_discrete spare 0) [
        | yes e ↦ time-full (λ z. omega arith) e
        | no e ↦ time-start (λ z. omega arith) e ∙ past (max ((own * whole + carry) / spare) before)
      ]

  -- What the code answers: of a limit past the last time that is sought, and of one up to it.
  pub past-limit : longest_time < d → time_within w above spare carry own d before ≡ 0
  past-limit h = ap (λ (b : Bool). cond b (time_for w above spare carry own d before) 0) (lt-leb d longest_time h)

  pub within-limit : d ≤ longest_time → time_within w above spare carry own d before ≡ time_for w above spare carry own d before
  within-limit h = ap (λ (b : Bool). cond b (time_for w above spare carry own d before) 0) (le-leb d longest_time h)

module _ (jobs : List Job) (set : Set) (t : ℕ) where
  pub work-past : longest_time < t → work_by jobs set t ≡ 0
  work-past h = ap (λ (b : Bool). cond b (interference jobs set t) 0) (lt-leb t longest_time h)

  pub work-within : t ≤ longest_time → work_by jobs set t ≡ interference jobs set t
  work-within h = ap (λ (b : Bool). cond b (interference jobs set t) 0) (le-leb t longest_time h)

-- An answer of the code for an own demand and a limit, told of numbers that are equal to them.
pub time-answered : (w : Table) (above : Set) (spare carry before : ℕ) {own own' d d' r : ℕ} → r ≡ time_within w above spare carry own d before → d ≤ longest_time
    → own ≡ own' → d ≡ d' → r ≡ time_for w above spare carry own' d' before
time-answered w above spare carry before {own} {own'} {d} {d'} e h f g =
    e ∙ within-limit w above spare carry own d before h ∙ ap₂ (λ (x y : ℕ). time_for w above spare carry x y before) f g
