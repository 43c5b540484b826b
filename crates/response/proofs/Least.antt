-- The least time that equals its demand: what is found, and that a smaller demand that rises with time is served no later. Assumes nothing.
use mathlib.Core.Path.{◌≡◌, refl, sym, ◌∙◌, ap}
use mathlib.Core.Logic.{◌↔◌}
use Prim.Native.Nat.{ℕ, zero, suc, ◌+◌, ◌≤◌, ◌<◌}
use native.Mathlib.Nat.{le_refl}
use native.Mathlib.Decide.{dec_le, ℕ_discrete}
use native.Mathlib.Omega.{arith}
use borrow.Author.Tests.{eq-eqb, ne_eqb}
use Rattle.response.specs.Demand.{least}

least-hit : (f : ℕ → ℕ) (n t : ℕ) → f t ≡ t → least f (suc n) t ≡ t
unfolding least
least-hit f n t e = rw (eq-eqb (f t) t e, least)

least-miss : (f : ℕ → ℕ) (n t : ℕ) → (f t ≡ t → ⊥) → least f (suc n) t ≡ least f n (suc t)
unfolding least
least-miss f n t e = rw (ne_eqb (f t) t e, least)

-- What is found is a time in reach that equals its demand.
pub least-found : (f : ℕ → ℕ) (n t : ℕ) → 0 < least f n t → (f (least f n t) ≡ least f n t) × (t ≤ least f n t) × (least f n t < t + n)
unfolding least
least-found f zero t h = absurd (omega arith)
least-found f (suc n) t h = elim (ℕ_discrete (f t) t) [
  | yes e ↦ rw (least-hit f n t e) (e, le_refl t, omega arith)
  | no e ↦
      let ih = least-found f n (suc t) (rw (least-miss f n t e) at h) in
      rw (least-miss f n t e) (ih.0, omega arith, omega arith)
]

-- The first such time is found.
pub least-is : (f : ℕ → ℕ) (n t r : ℕ) → t ≤ r → r < t + n → f r ≡ r → ((x : ℕ) → t ≤ x → x < r → f x ≡ x → ⊥) → least f n t ≡ r
least-is f zero t r l h e before = absurd (omega arith)
least-is f (suc n) t r l h e before = elim (ℕ_discrete t r) [
  | yes g ↦ least-hit f n t (ap f g ∙ e ∙ sym g) ∙ g
  | no g ↦ least-miss f n t (before t (le_refl t) (omega arith)) ∙ least-is f n (suc t) r (omega arith) (omega arith) e (λ x a b. before x (omega arith) b)
]

-- Where there is none, the answer is 0.
pub least-none : (f : ℕ → ℕ) (n t : ℕ) → ((x : ℕ) → t ≤ x → x < t + n → f x ≡ x → ⊥) → least f n t ≡ 0
unfolding least
least-none f zero t never = refl
least-none f (suc n) t never = least-miss f n t (never t (le_refl t) (omega arith)) ∙ least-none f n (suc t) (λ x a b. never x (omega arith) (omega arith))

-- A time in reach that equals its demand: then what is found is no later.
pub least_first : (f : ℕ → ℕ) (n t x : ℕ) → 0 < t → t ≤ x → x < t + n → f x ≡ x → (0 < least f n t) × (least f n t ≤ x)
least_first f zero t x p l h e = absurd (omega arith)
least_first f (suc n) t x p l h e = elim (ℕ_discrete (f t) t) [
  | yes g ↦ rw (least-hit f n t g) (p, l)
  | no g ↦ rw (least-miss f n t g) (least_first f n (suc t) x (omega arith) (elim (ℕ_discrete t x) [ yes z ↦ absurd (g (rw z e)) | no z ↦ omega arith ]) (omega arith) e)
]

-- A demand that rises with time and is 0 at no time from 1 on.
pub record Rising (f : ℕ → ℕ) : Type 0 where
  pub pos : (t : ℕ) → 0 < t → 0 < f t
  pub mono : (t u : ℕ) → t ≤ u → f t ≤ f u

module _ (f : ℕ → ℕ) (R : Rising f) where
  -- Below t no time covers its demand: then the demand at t is t as soon as t covers it.
  meets : (t : ℕ) → 0 < t → ((y : ℕ) → 0 < y → y < t → y < f y) → f t ≤ t → f t ≡ t
  meets t p low h = elim (dec_le t (f t)) [
    | yes g ↦ omega arith
    | no g ↦ absurd (omega (arith, low (f t) (R.pos t p) (omega arith), R.mono (f t) t h))
  ]

  finds : (n t x : ℕ) → ((y : ℕ) → 0 < y → y < t → y < f y) → 0 < t → t ≤ x → x < t + n → f x ≤ x → (0 < least f n t) × (least f n t ≤ x)
  finds zero t x low tp tx xn fx = absurd (omega arith)
  finds (suc n) t x low tp tx xn fx = elim (dec_le (f t) t) [
    | yes g ↦ rw (least-hit f n t (meets t tp low g)) (tp, tx)
    | no g ↦
        rw (least-miss f n t (λ e. g (omega arith)))
        (finds n (suc t) x (λ y p l. elim (dec_le t y) [
          | yes k ↦ let e : y ≡ t = omega arith in rw e (omega arith)
          | no k ↦ low y p (omega arith)
        ]) (omega arith) (elim (ℕ_discrete t x) [ yes e ↦ absurd (g (rw e fx)) | no e ↦ omega arith ]) (omega arith) fx)
  ]

  -- A time in reach that covers its demand: then the least time is there, and no later.
  pub covered : (d x : ℕ) → 0 < x → x ≤ d → f x ≤ x → (0 < least f d 1) × (least f d 1 ≤ x)
  covered d x p h fx = finds d 1 x (λ y a b. absurd (omega arith)) (omega arith) p (omega arith) fx

  -- The bound is not 0 exactly if some time from 1 to d covers its demand.
  pub served-exactly : (d : ℕ) → (0 < least f d 1) ↔ ((x : ℕ) × (0 < x) × (x ≤ d) × (f x ≤ x))
  served-exactly d = (
    λ h. let w = least-found f d 1 h in (least f d 1, h, omega (arith, w.2), omega (arith, w.0)),
    λ w. (covered d w.0 w.1 w.2 w.3).0,
  )

-- A smaller demand is served no later.
pub sooner : (f g : ℕ → ℕ) → Rising g → ((t : ℕ) → g t ≤ f t) → (d : ℕ) → 0 < least f d 1 → (0 < least g d 1) × (least g d 1 ≤ least f d 1)
sooner f g R h d b =
    let w = least-found f d 1 b in
    covered g R d (least f d 1) b (omega (arith, w.2)) (omega (arith, w.0, h (least f d 1)))
