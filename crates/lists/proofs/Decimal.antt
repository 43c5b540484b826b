-- Laws of numbers in decimal. Assumes nothing.
use Prim.Native.Nat.{ℕ, zero, suc, ◌+◌, ◌/◌, ◌%◌, ◌^◌, ◌≤◌, ◌<◌}
use mathlib.Core.Path.{◌≡◌, refl, ap, ◌∙◌}
use mathlib.Core.Bool.{Bool, true, false, cond}
use mathlib.Core.List.{List, [], ◌∷◌, ◌++◌}
use native.Mathlib.Nat.{pow-suc}
use native.Mathlib.Omega.{arith}
use lib.Dec.{ltb}
use lib.ListN.{length, length-append}
use borrow.Author.Tests.{ltb-true, ltb-false, lt-ltb, le-ltb}
use Rattle.lists.specs.Decimals.{digit, decimal_by, decimal}

fuel : (k j n : ℕ) → n < k → n < j → decimal_by k n ≡ decimal_by j n
fuel zero j n h g = absurd (omega arith)
fuel (suc k) zero n h g = absurd (omega arith)
fuel (suc k) (suc j) n h g = by (ltb n 10) refl (λ l. fuel k j (n / 10) (omega arith) (omega arith))
  where
    by : (b : Bool) → ltb n 10 ≡ b → (10 ≤ n → decimal_by k (n / 10) ≡ decimal_by j (n / 10))
        → cond b (digit n ∷ []) (decimal_by k (n / 10) ++ (digit (n % 10) ∷ [])) ≡ cond b (digit n ∷ []) (decimal_by j (n / 10) ++ (digit (n % 10) ∷ []))
    by true e f = refl
    by false e f = ap (λ (l : List ℕ). l ++ (digit (n % 10) ∷ [])) (f (ltb-false n 10 e))

-- One digit, and one digit more.
pub decimal-one : (n : ℕ) → n < 10 → decimal n ≡ digit (n % 10) ∷ []
unfolding decimal
decimal-one n h = simp (lt-ltb n 10 h) (ap (λ (m : ℕ). digit m ∷ []) (omega arith))

pub decimal-more : (n : ℕ) → 10 ≤ n → decimal n ≡ decimal (n / 10) ++ (digit (n % 10) ∷ [])
unfolding decimal
decimal-more n h = simp (le-ltb n 10 h) (ap (λ (l : List ℕ). l ++ (digit (n % 10) ∷ [])) (fuel n (suc (n / 10)) (n / 10) (omega arith) (omega arith)))

pub length-one : (n : ℕ) → n < 10 → length (decimal n) ≡ 1
length-one n h = ap length (decimal-one n h)

pub length_more : (n : ℕ) → 10 ≤ n → length (decimal n) ≡ length (decimal (n / 10)) + 1
length_more n h = ap length (decimal-more n h) ∙ length-append (decimal (n / 10)) (digit (n % 10) ∷ [])

-- A number below 10 ^ (k + 1) has at most k + 1 digits.
shorter : (k n : ℕ) → n < 10 ^ suc k → length (decimal n) ≤ suc k
shorter zero n h = omega (arith, length-one n (omega arith))
shorter (suc k) n h = by (ltb n 10) refl (λ l. shorter k (n / 10) (omega (arith, pow-suc 10 (suc k))))
  where
    by : (b : Bool) → ltb n 10 ≡ b → (10 ≤ n → length (decimal (n / 10)) ≤ suc k) → length (decimal n) ≤ suc (suc k)
    by true e f = omega (arith, length-one n (ltb-true n 10 e))
    by false e f = omega (arith, length_more n (ltb-false n 10 e), f (ltb-false n 10 e))

pub decimal-short : (n : ℕ) → n < 2 ^ 32 → length (decimal n) ≤ 10
decimal-short n h = shorter 9 n (omega arith)
