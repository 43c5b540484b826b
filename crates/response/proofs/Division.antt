-- Laws of division rounded up. Assumes nothing.
use Prim.Native.Nat.{ℕ, zero, suc, ◌+◌, ◌*◌, ◌/◌, ◌-◌, ◌≤◌, ◌<◌, zero-le}
use mathlib.Core.Path.{◌≡◌, refl, sym, ◌∙◌}
use native.Mathlib.Nat.{le_refl, mul-le-mul_left, mul-le-mul_right, le-div_iff_mul-le, div-mul-le_self, div-zero, zero-lt-suc, lt-mul-div-succ, div-lt_iff_lt-mul, mul_comm, mul_assoc, add-mul}
use native.Mathlib.Omega.{arith}
use Rattle.response.specs.Demand.{ceil_div}

pub ceil-zero : (x y : ℕ) → y ≡ 0 → ceil_div x y ≡ 0
unfolding ceil_div
ceil-zero x y e = simp (e, div-zero)

div_mono : (x y d : ℕ) → x ≤ y → x / d ≤ y / d
div_mono x y zero h = simp div-zero (le_refl 0)
div_mono x y (suc d) h = (le-div_iff_mul-le (zero-lt-suc d)).1 (omega (arith, div-mul-le_self x (suc d)))

pub ceil-mono : (x y d : ℕ) → x ≤ y → ceil_div x d ≤ ceil_div y d
unfolding ceil_div
ceil-mono x y d h = div_mono (x + (d - 1)) (y + (d - 1)) d (omega arith)

-- A longer quantum: no more cycles.
pub ceil-anti : (x d e : ℕ) → 0 < d → d ≤ e → ceil_div x e ≤ ceil_div x d
unfolding ceil_div
ceil-anti x d e p h =
    let pe : 0 < e = omega arith in
    let m = (x + (d - 1)) / d in
    let a = lt-mul-div-succ (x + (d - 1)) p in
    let b : (x + (e - 1)) / e < m + 1 = (div-lt_iff_lt-mul pe).1 (omega (arith, a, mul-le-mul_right m h)) in
    omega arith

-- So many times y cover x.
pub ceil-covers : (x y : ℕ) → 0 < y → x ≤ ceil_div x y * y
unfolding ceil_div
ceil-covers x y p = omega (arith, lt-mul-div-succ (x + (y - 1)) p, mul_comm y ((x + (y - 1)) / y + 1), add-mul ((x + (y - 1)) / y) 1 y)

pub ceil-le : (x y : ℕ) → ceil_div x y ≤ x
unfolding ceil_div
ceil-le x zero = rw div-zero zero-le
ceil-le x (suc y) =
    let e : (x + 1) * suc y ≡ x * suc y + suc y = mul_comm (x + 1) (suc y) ∙ omega (arith, mul_comm x (suc y)) in
    let m : x * 1 ≤ x * suc y = mul-le-mul_left x (omega arith) in
    let l : (x + (suc y - 1)) / suc y < x + 1 = (div-lt_iff_lt-mul (zero-lt-suc y)).1 (omega arith) in
    omega arith

-- No more than m times y are needed where m times y cover x.
ceil-least : (x y m : ℕ) → 0 < y → x ≤ m * y → ceil_div x y ≤ m
unfolding ceil_div
ceil-least x y m p h = let l : (x + (y - 1)) / y < m + 1 = (div-lt_iff_lt-mul p).1 (omega (arith, add-mul m 1 y)) in omega arith

-- The quotient at t is at most t + 1 times the quotient at 1, each with a delay.
pub ceil-one : (t delay y : ℕ) → ceil_div (t + delay) y ≤ suc t * ceil_div (1 + delay) y
ceil-one t delay zero = rw (ceil-zero (t + delay) 0 refl, ceil-zero (1 + delay) 0 refl) (omega arith)
ceil-one t delay (suc y) =
    let c = ceil_div (1 + delay) (suc y) in
    let once : suc t * (1 + delay) ≤ suc t * (c * suc y) = mul-le-mul_left (suc t) (ceil-covers (1 + delay) (suc y) (zero-lt-suc y)) in
    let more : t * 1 ≤ t * (1 + delay) = mul-le-mul_left t (omega arith) in
    let split : suc t * (1 + delay) ≡ 1 + delay + t * (1 + delay) = omega arith in
    ceil-least (t + delay) (suc y) (suc t * c) (zero-lt-suc y) (omega (arith, sym (mul_assoc (suc t) c (suc y)), once, more, split))
