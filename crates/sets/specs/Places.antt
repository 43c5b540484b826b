-- Tests, sums and lists over places. A place is a job's position in its list, from 0. Assumes nothing.
use Rattle.std.specs.Prelude.{ℕ, zero, suc, ◌+◌, Bool, true, cond, ◌&&◌, List, [], ◌∷◌, ◌++◌}

-- The test passes at each place below n.
unfoldable pub every : (ℕ → Bool) → ℕ → Bool
every test zero = true
every test (suc n) = every test n && test n

-- The first place below n at which the test fails; n where there is none.
unfoldable pub failing : (ℕ → Bool) → ℕ → ℕ
failing test zero = 0
failing test (suc n) = cond (test 0) (suc (failing (λ i. test (suc i)) n)) 0

-- The sum of f over the places below n.
unfoldable pub sum : (ℕ → ℕ) → ℕ → ℕ
sum f zero = 0
sum f (suc n) = sum f n + f n

-- The sum of f over the places below n that are in the set.
unfoldable pub sum_over : ℕ → (ℕ → Bool) → (ℕ → ℕ) → ℕ
sum_over n set f = sum (λ i. cond (set i) (f i) 0) n

-- The number of places below n that are in the set.
unfoldable pub count : ℕ → (ℕ → Bool) → ℕ
count n set = sum_over n set (λ i. 1)

-- The values of f at the places below n.
unfoldable pub list_of : {A : Type 0} → (ℕ → A) → ℕ → List A
list_of f zero = []
list_of f (suc n) = list_of f n ++ (f n ∷ [])
