-- How the run of a job's instances is found, each finish from the finish of the instance before; and the first instance with a response that
-- is sought. Assumes nothing.
use mathlib.Core.Path.{◌≡◌, refl, sym, ◌∙◌, ap, ap₂, subst}
use mathlib.Core.Bool.{Bool, true, false, ◌&&◌}
use mathlib.Core.Logic.{◌≢◌}
use Prim.Native.Nat.{ℕ, zero, suc, ◌+◌, ◌*◌, ◌-◌, ◌≤◌, ◌<◌, max}
use native.Mathlib.Decide.{dec_le, ℕ_discrete}
use native.Mathlib.Omega.{arith}
use borrow.Author.Tests.{eq-eqb, ne_eqb, le-leb, lt-leb, lt-ltb}
use Rattle.response.specs.Demand.{plus_delay, Reached, larger, response_of, run}
use Rattle.response.proofs.Runs.{larger-max, plus_none, plus-some, run_none, run-closed, run-open}
use Rattle.runs.specs.Runs.{is_sought, run_by}

module _ (found : ℕ → ℕ → ℕ) (delay period : ℕ) where
  -- ---- one instance, whatever is sought

  module _ (sought : ℕ) where
    abbrev hits : ℕ → ℕ → Bool
    hits j before = is_sought sought (found j before + delay - j * period)

    by-none : (n j before largest : ℕ) → found j before ≡ 0 → run_by found delay period sought (suc n) j before largest ≡ 0
    unfolding run_by
    by-none n j before largest e = rw (eq-eqb (found j before) 0 e)

    by-hit : (n j before largest : ℕ) → found j before ≢ 0 → hits j before ≡ true → run_by found delay period sought (suc n) j before largest ≡ suc j
    unfolding run_by
    by-hit n j before largest e s = rw (ne_eqb (found j before) 0 e, s)

    by-closed : (n j before largest : ℕ) → found j before ≢ 0 → hits j before ≡ false → found j before + delay ≤ suc j * period
        → run_by found delay period sought (suc n) j before largest ≡ max largest (found j before + delay - j * period)
    unfolding run_by
    by-closed n j before largest e s h = rw (ne_eqb (found j before) 0 e, s, le-leb (found j before + delay) (suc j * period) h)

    by-open : (n j before largest : ℕ) → found j before ≢ 0 → hits j before ≡ false → suc j * period < found j before + delay
        → run_by found delay period sought (suc n) j before largest ≡ run_by found delay period sought n (suc j) (found j before) (max largest (found j before + delay - j * period))
    unfolding run_by
    by-open n j before largest e s h = rw (ne_eqb (found j before) 0 e, s, lt-leb (found j before + delay) (suc j * period) h)

    -- ---- the loop of the code, over n instances

    module _ (n j before largest : ℕ) (h : j < n) where
      left : n - j ≡ suc (n - suc j)
      left = omega arith

      pub turn-none : found j before ≡ 0 → run_by found delay period sought (n - j) j before largest ≡ 0
      turn-none e = rw left (by-none (n - suc j) j before largest e)

      pub turn-hit : found j before ≢ 0 → hits j before ≡ true → run_by found delay period sought (n - j) j before largest ≡ suc j
      turn-hit e s = rw left (by-hit (n - suc j) j before largest e s)

      pub turn-closed : found j before ≢ 0 → hits j before ≡ false → found j before + delay ≤ suc j * period
          → run_by found delay period sought (n - j) j before largest ≡ max largest (found j before + delay - j * period)
      turn-closed e s c = rw left (by-closed (n - suc j) j before largest e s c)

      pub turn-open : found j before ≢ 0 → hits j before ≡ false → suc j * period < found j before + delay
          → run_by found delay period sought (n - j) j before largest ≡ run_by found delay period sought (n - suc j) (suc j) (found j before) (max largest (found j before + delay - j * period))
      turn-open e s c = rw left (by-open (n - suc j) j before largest e s c)

    pub turn-out : (j before largest : ℕ) → run_by found delay period sought 0 j before largest ≡ 0
    unfolding run_by
    turn-out j before largest = refl

  -- Each search from a time that is good for its instance finds its finish.
  module _ (f : ℕ → ℕ) (Good : ℕ → ℕ → Type 0) (same : (j b : ℕ) → Good j b → found j b ≡ f j) (next : (j : ℕ) → 0 < f j → Good (suc j) (f j)) where
    abbrev late : ℕ → ℕ
    late j = plus_delay delay (f j)

    -- Then what is found is the response of the run, where none is sought,
    pub run-found : (n j b : ℕ) (before : Reached) → Good j b → run_by found delay period 0 n j b before.response ≡ (run late period n j before).response
    unfolding run run_by
    run-found zero j b before good = refl
    run-found (suc n) j b before good =
        let e : found j b ≡ f j = same j b good in
        elim (ℕ_discrete (f j) 0) [
          | yes z ↦ by-none 0 n j b before.response (e ∙ z) ∙ sym (ap (λ (r : Reached). r.response) (run_none late period n j before (plus_none delay (f j) z)))
          | no z ↦
              let l : late j ≡ f j + delay = plus-some delay (f j) z in
              let some : late j ≢ 0 = λ q. z (omega arith) in
              let most : max before.response (found j b + delay - j * period) ≡ (larger before (response_of period j (late j))).response =
              ap (λ (x : ℕ). max before.response (x - j * period)) (omega arith) ∙ sym (larger-max before (response_of period j (late j))) in
              elim (dec_le (late j) (suc j * period)) [
                | yes c ↦
                    by-closed 0 n j b before.response (λ q. z (sym e ∙ q)) refl (omega arith) ∙ most
                    ∙ sym (ap (λ (r : Reached). r.response) (run-closed late period n j before some c))
                | no c ↦
                    by-open 0 n j b before.response (λ q. z (sym e ∙ q)) refl (omega arith)
                    ∙ ap₂ (run_by found delay period 0 n (suc j)) e most
                    ∙ run-found n (suc j) (f j) (larger before (response_of period j (late j))) (next j (omega arith))
                    ∙ sym (ap (λ (r : Reached). r.response) (run-open late period n j before some (omega arith)))
              ]
        ]

    -- and where one is sought, the instance `here` that has it, if each before has a finish, another response, and runs past its next
    -- release.
    module _ (sought here : ℕ) (p : 0 < sought) (at : late here ≡ sought + here * period)
        (earlier : (j : ℕ) → j < here → (0 < f j) × (late j - j * period < sought) × (suc j * period < late j))
      where
        abbrev is-sought : (j b : ℕ) → Type 0
        is-sought j b = is_sought sought (found j b + delay - j * period) ≡ true

        hit-here : (b : ℕ) → Good here b → is-sought here b
        hit-here b good =
            let some : f here ≢ 0 = λ z. omega (arith, plus_none delay (f here) z) in
            let e : found here b + delay - here * period ≡ sought = omega (arith, same here b good, plus-some delay (f here) some) in
            ap₂ ◌&&◌ (lt-ltb 0 sought p) (eq-eqb _ sought e)

        miss-before : (j b : ℕ) → Good j b → j < here → is_sought sought (found j b + delay - j * period) ≡ false
        miss-before j b good l =
            let w = earlier j l in
            ap₂ ◌&&◌ (lt-ltb 0 sought p) (ne_eqb _ sought (λ x. omega (arith, same j b good, plus-some delay (f j) (λ z. omega (arith, w.0)), w.1)))

        pub sought-found : (n j b largest : ℕ) → Good j b → j ≤ here → here < j + n → run_by found delay period sought n j b largest ≡ suc here
        sought-found zero j b largest good h l = absurd (omega arith)
        sought-found (suc n) j b largest good h l =
            let e : found j b ≡ f j = same j b good in
            elim (ℕ_discrete j here) [
              | yes g ↦
                  rw g
                  (by-hit sought n here b largest (λ z. omega (arith, plus_none delay (f here) (sym (same here b (subst (λ (i : ℕ). Good i b) g good)) ∙ z))) (hit-here b (subst (λ (i : ℕ). Good i b) g good)))
              | no g ↦
                  let w = earlier j (omega arith) in
                  by-open sought n j b largest (λ z. omega (arith, e, w.0)) (miss-before j b good (omega arith)) (omega (arith, e, w.2, plus-some delay (f j) (λ z. omega (arith, w.0))))
                  ∙ ap (λ (x : ℕ). run_by found delay period sought n (suc j) x (max largest (found j b + delay - j * period))) e
                  ∙ sought-found n (suc j) (f j) _ (next j w.0) (omega arith) (omega arith)
            ]
