-- The lesser of two bounds, one that is 0 giving way to the other. Assumes nothing.
use mathlib.Core.Path.{◌≡◌, sym, ◌∙◌, ap, ap₂}
use mathlib.Core.Bool.{Bool, true, false}
use mathlib.Core.Logic.{◌⊎◌, inl, inr}
use Prim.Native.Nat.{ℕ, ◌<◌, min}
use native.Mathlib.Decide.{ℕ_discrete}
use native.Mathlib.Omega.{arith}
use lib.Dec.{eqb}
use borrow.Author.Tests.{eq-eqb, ne_eqb}
use Rattle.response.specs.Demand.{lesser}

module _ (x y : ℕ) where
  cases : (a b : Bool) → eqb x 0 ≡ a → eqb y 0 ≡ b → lesser x y ≡ elim a [ true ↦ y | false ↦ elim b [ true ↦ x | false ↦ min x y ] ]
  cases a b e f = ap₂ (λ (a b : Bool). elim a [ true ↦ y | false ↦ elim b [ true ↦ x | false ↦ min x y ] ]) e f

  pub lesser-second : x ≡ 0 → lesser x y ≡ y
  lesser-second e = ap (λ (a : Bool). elim a [ true ↦ y | false ↦ elim (eqb y 0) [ true ↦ x | false ↦ min x y ] ]) (eq-eqb x 0 e)

  lesser-first : (x ≡ 0 → ⊥) → y ≡ 0 → lesser x y ≡ x
  lesser-first d e = cases false true (ne_eqb x 0 d) (eq-eqb y 0 e)

  pub lesser-both : (x ≡ 0 → ⊥) → (y ≡ 0 → ⊥) → lesser x y ≡ min x y
  lesser-both d e = cases false false (ne_eqb x 0 d) (ne_eqb y 0 e)

  -- A second bound of 0 gives way.
  pub lesser-none : y ≡ 0 → lesser x y ≡ x
  lesser-none e = elim (ℕ_discrete x 0) [ yes z ↦ lesser-second z ∙ e ∙ sym z | no z ↦ lesser-first z e ]

  pub lesser-same : y ≡ x → lesser x y ≡ x
  lesser-same e = elim (ℕ_discrete x 0) [
    | yes z ↦ lesser-second z ∙ e
    | no z ↦ lesser-both z (λ w. z (sym e ∙ w)) ∙ omega arith
  ]

-- It is one of the two.
pub lesser-one : (x y : ℕ) → (lesser x y ≡ x) ⊎ (lesser x y ≡ y)
lesser-one x y = elim (ℕ_discrete (lesser x y) x) [
  | yes e ↦ inl e
  | no h ↦ inr (elim (ℕ_discrete x 0) [
    | yes z ↦ lesser-second x y z
    | no z ↦ elim (ℕ_discrete y 0) [
      | yes e ↦ absurd (h (lesser-first x y z e))
      | no e ↦ omega (arith, lesser-both x y z e)
    ]
  ])
]

-- It is 0 only where both are: what serves both keeps serving.
pub lesser-serves : (x y x' y' : ℕ) → (0 < x → 0 < x') → (0 < y → 0 < y') → 0 < lesser x y → 0 < lesser x' y'
lesser-serves x y x' y' f g h = elim (ℕ_discrete x' 0) [
  | yes e ↦ rw (lesser-second x' y' e) (elim (ℕ_discrete x 0) [
    | yes z ↦ g (rw (lesser-second x y z) at h)
    | no z ↦ absurd (omega (arith, f (omega arith)))
  ])
  | no e ↦ elim (ℕ_discrete y' 0) [
    | yes z ↦ rw (lesser-first x' y' e z) (omega arith)
    | no z ↦ rw (lesser-both x' y' e z) (omega arith)
  ]
]
