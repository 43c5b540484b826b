-- The run of a job's instances: it goes by the finishes alone, and finishes that are no later keep it closing. Assumes nothing.
use mathlib.Core.Path.{◌≡◌, refl, ◌∙◌, ap}
use mathlib.Core.Logic.{◌≢◌}
use Prim.Native.Nat.{ℕ, zero, suc, ◌+◌, ◌*◌, ◌-◌, ◌≤◌, ◌<◌, max}
use native.Mathlib.Decide.{dec_le, ℕ_discrete}
use native.Mathlib.Omega.{arith}
use borrow.Author.Tests.{eq-eqb, ne_eqb, le-leb, lt-leb, lt-ltb, le-ltb}
use Rattle.response.specs.Demand.{plus_delay, Reached, none, larger, response_of, run}

pub larger-max : (a b : Reached) → (larger a b).response ≡ max a.response b.response
unfolding larger
larger-max a b = elim (dec_le b.response a.response) [
  | yes h ↦ rw (le-ltb a.response b.response h, larger) (omega arith)
  | no h ↦ rw (lt-ltb a.response b.response (omega arith), larger) (omega arith)
]

-- ---- a finish plus the delay

pub plus_none : (delay t : ℕ) → t ≡ 0 → plus_delay delay t ≡ 0
plus_none delay t e = ap (plus_delay delay) e

pub plus-some : (delay t : ℕ) → t ≢ 0 → plus_delay delay t ≡ t + delay
plus-some delay zero h = absurd (h refl)
plus-some delay (suc t) h = refl

-- It is there where the finish is, no earlier than that and no later where the finish is no later.
pub plus-at-least : (delay t : ℕ) → t ≤ plus_delay delay t
plus-at-least delay zero = omega arith
plus-at-least delay (suc t) = omega arith

pub plus-from : (delay t : ℕ) → 0 < plus_delay delay t → 0 < t
plus-from delay zero h = h
plus-from delay (suc t) h = omega arith

pub plus-mono : (delay t u : ℕ) → 0 < t → t ≤ u → plus_delay delay t ≤ plus_delay delay u
plus-mono delay t u p h = omega (arith, plus-some delay t (λ e. omega arith), plus-some delay u (λ e. omega arith))

-- ---- one instance

module _ (f : ℕ → ℕ) (period : ℕ) where
  pub run_none : (n j : ℕ) (before : Reached) → f j ≡ 0 → run f period (suc n) j before ≡ none
  unfolding run
  run_none n j before e = rw (eq-eqb (f j) 0 e, run)

  pub run-closed : (n j : ℕ) (before : Reached) → f j ≢ 0 → f j ≤ suc j * period
      → run f period (suc n) j before ≡ larger before (response_of period j (f j))
  unfolding run
  run-closed n j before e h = rw (ne_eqb (f j) 0 e, le-leb (f j) (suc j * period) h, run)

  pub run-open : (n j : ℕ) (before : Reached) → f j ≢ 0 → suc j * period < f j
      → run f period (suc n) j before ≡ run f period n (suc j) (larger before (response_of period j (f j)))
  unfolding run
  run-open n j before e h = rw (ne_eqb (f j) 0 e, lt-leb (f j) (suc j * period) h, run)

-- Finishes that are no later: a run that closes still closes.
pub run-sooner : (f g : ℕ → ℕ) (period : ℕ) → ((j : ℕ) → 0 < f j → (0 < g j) × (g j ≤ f j)) → (n j : ℕ) (a b : Reached)
    → (0 < g j → 0 < b.response + (g j - j * period)) → 0 < (run f period n j a).response → 0 < (run g period n j b).response
unfolding run
run-sooner f g period h zero j a b p r = absurd (omega arith)
run-sooner f g period h (suc n) j a b p r = elim (ℕ_discrete (f j) 0) [
  | yes z ↦ let e : 0 < none.response = rw (run_none f period n j a z) at r in absurd (omega arith)
  | no z ↦
      let w = h j (omega arith) in
      let more : 0 < (larger b (response_of period j (g j))).response = rw (larger-max b (response_of period j (g j))) (omega (arith, p w.0)) in
      elim (dec_le (g j) (suc j * period)) [
        | yes c ↦ rw (run-closed g period n j b (λ e. omega (arith, w.0)) c) more
        | no c ↦
            rw (run-open g period n j b (λ e. omega (arith, w.0)) (omega arith))
            (run-sooner f g period h n (suc j) _ _ (λ x. omega arith) (rw (run-open f period n j a z (omega (arith, w.1))) at r))
      ]
]

-- No instance finishes by its next release: the run does not close.
pub run-never : (f : ℕ → ℕ) (period : ℕ) → ((j : ℕ) → 0 < f j → suc j * period < f j) → (n j : ℕ) (b : Reached) → (run f period n j b).response ≡ 0
unfolding run
run-never f period h zero j b = refl
run-never f period h (suc n) j b = elim (ℕ_discrete (f j) 0) [
  | yes z ↦ ap (λ (r : Reached). r.response) (run_none f period n j b z)
  | no z ↦ ap (λ (r : Reached). r.response) (run-open f period n j b z (h j (omega arith))) ∙ run-never f period h n (suc j) _
]
