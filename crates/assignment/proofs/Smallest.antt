-- The search through lists in order finds the list that is least at each place, where there is such a one. Assumes nothing.
use Prim.Native.Nat.{ℕ, zero, suc, ◌+◌, ◌≤◌, ◌<◌}
use mathlib.Core.Path.{◌≡◌, refl, sym, ◌∙◌}
use mathlib.Core.Bool.{Bool, true, false, cond}
use mathlib.Core.List.{List, [], ◌∷◌}
use mathlib.Core.Option.{Option, none, some, none-ne-some, some-injective}
use native.Mathlib.Nat.{le_refl}
use native.Mathlib.Decide.{ℕ_discrete}
use native.Mathlib.Omega.{arith}
use lib.ListN.{length, get_or}
use Rattle.assignment.specs.Plan.{first_from, smallest}
use Rattle.assignment.specs.Layers.{Fits, Below}

first-hit : (f : ℕ → Option (List ℕ)) (x n : ℕ) (v : List ℕ) → f x ≡ some v → first_from f x (suc n) ≡ some (x ∷ v)
unfolding first_from
first-hit f x n v e = rw (e, first_from)

first-miss : (f : ℕ → Option (List ℕ)) (x n : ℕ) → f x ≡ none → first_from f x (suc n) ≡ first_from f (suc x) n
unfolding first_from
first-miss f x n e = rw (e, first_from)

-- What is found is a value with its answer.
pub record Found (f : ℕ → Option (List ℕ)) (x n : ℕ) (r : List ℕ) : Type 0 where
  pub value : ℕ
  pub rest : List ℕ
  pub is : r ≡ value ∷ rest
  pub least : x ≤ value
  pub most : value < x + n
  pub answer : f value ≡ some rest

first_some : (f : ℕ → Option (List ℕ)) (x n : ℕ) (r : List ℕ) → first_from f x n ≡ some r → Found f x n r
unfolding first_from
first_some f x zero r e = absurd (none-ne-some r e)
first_some f x (suc n) r e = go (f x) refl (first_some f (suc x) n r)
  where
    go : (o : Option (List ℕ)) → f x ≡ o → (first_from f (suc x) n ≡ some r → Found f (suc x) n r) → Found f x (suc n) r
    go none h ih =
        let g = ih (sym (first-miss f x n h) ∙ e) in
        record { value = g.value; rest = g.rest; is = g.is; least = omega (arith, g.least); most = omega (arith, g.most); answer = g.answer }
    go (some v) h ih =
        record { value = x; rest = v; is = some-injective _ _ (sym e ∙ first-hit f x n v h); least = le_refl x; most = omega arith; answer = h }

first-at : (f : ℕ → Option (List ℕ)) (y : ℕ) (v : List ℕ) (x n : ℕ) → x ≤ y → y < x + n
    → ((z : ℕ) → x ≤ z → z < y → f z ≡ none) → f y ≡ some v → first_from f x n ≡ some (y ∷ v)
first-at f y v x zero l h before e = absurd (omega arith)
first-at f y v x (suc n) l h before e = elim (ℕ_discrete x y) [
  | yes g ↦ rw g (first-hit f y n v e)
  | no g ↦ first-miss f x n (before x (le_refl x) (omega arith)) ∙ first-at f y v (suc x) n (omega arith) (omega arith) (λ z k. before z (omega arith)) e
]

first-none : (f : ℕ → Option (List ℕ)) (x n : ℕ) → first_from f x n ≡ none → (y : ℕ) → x ≤ y → y < x + n → f y ≡ none
first-none f x zero e y l h = absurd (omega arith)
first-none f x (suc n) e y l h = go (f x) refl (first-none f (suc x) n)
  where
    go : (o : Option (List ℕ)) → f x ≡ o → (first_from f (suc x) n ≡ none → (y : ℕ) → suc x ≤ y → y < suc x + n → f y ≡ none) → f y ≡ none
    go none g ih = elim (ℕ_discrete x y) [ yes z ↦ rw (← z) g | no z ↦ ih (sym (first-miss f x n g) ∙ e) y (omega arith) (omega arith) ]
    go (some v) g ih = absurd (none-ne-some (x ∷ v) (sym e ∙ first-hit f x n v g))

none_or : {A : Type 0} (o : Option A) → ((a : A) → o ≡ some a → ⊥) → o ≡ none
none_or none h = refl
none_or (some a) h = absurd (h a refl)

cond-some : (b : Bool) (r : List ℕ) → cond {A = Option (List ℕ)} b (some []) none ≡ some r → (b ≡ true) × (r ≡ [])
cond-some true r e = (refl, sym (some-injective _ _ e))
cond-some false r e = absurd (none-ne-some r e)

-- What is found passes the test.
pub smallest-some : (ranges : List (ℕ × ℕ)) (test : List ℕ → Bool) (r : List ℕ) → smallest ranges test ≡ some r → Fits ranges r × (test r ≡ true)
unfolding smallest
smallest-some [] test r e = let g = cond-some (test []) r e in rw g.1 (tt, g.0)
smallest-some (values ∷ ranges) test r e =
    let g = first_some (λ x. smallest ranges (λ v. test (x ∷ v))) values.0 values.1 r e in
    let ih = smallest-some ranges (λ v. test (g.value ∷ v)) g.rest g.answer in
    rw g.is ((g.least, g.most, ih.0), ih.1)

-- The list that is least at each place among those that pass is the one found.
pub smallest-least : (ranges : List (ℕ × ℕ)) (test : List ℕ → Bool) (m : List ℕ) → Fits ranges m → test m ≡ true
    → ((w : List ℕ) → Fits ranges w → test w ≡ true → Below m w) → smallest ranges test ≡ some m
unfolding smallest
smallest-least [] test [] f e h = rw e
smallest-least [] test (x ∷ v) f e h = absurd f
smallest-least (values ∷ ranges) test [] f e h = absurd f
smallest-least (values ∷ ranges) test (x ∷ v) f e h =
    first-at (λ y. smallest ranges (λ w. test (y ∷ w))) x v values.0 values.1 f.0 f.1
    (λ y k l. none_or (smallest ranges (λ w. test (y ∷ w))) (λ w q.
    let g = smallest-some ranges (λ u. test (y ∷ u)) w q in
    let z : x ≤ y = h (y ∷ w) (k, omega arith, g.0) g.1 0 in
    omega arith))
    (smallest-least ranges (λ w. test (x ∷ w)) v f.2 e (λ w fw pw i. h (x ∷ w) (f.0, f.1, fw) pw (suc i)))

-- Nothing passes: nothing is found.
pub smallest-none : (ranges : List (ℕ × ℕ)) (test : List ℕ → Bool) → ((w : List ℕ) → Fits ranges w → test w ≡ true → ⊥) → smallest ranges test ≡ none
smallest-none ranges test h = none_or (smallest ranges test) (λ w q. let g = smallest-some ranges test w q in h w g.0 g.1)

-- Nothing is found: nothing passes.
pub smallest-all : (ranges : List (ℕ × ℕ)) (test : List ℕ → Bool) → smallest ranges test ≡ none → (w : List ℕ) → Fits ranges w → test w ≡ true → ⊥
unfolding smallest
smallest-all [] test e [] f h = none-ne-some [] (sym (rw h at e))
smallest-all [] test e (x ∷ v) f h = f
smallest-all (values ∷ ranges) test e [] f h = f
smallest-all (values ∷ ranges) test e (x ∷ v) f h =
    smallest-all ranges (λ w. test (x ∷ w)) (first-none (λ y. smallest ranges (λ w. test (y ∷ w))) values.0 values.1 e x f.0 f.1) v f.2 h

-- ---- the values of a list, place by place

pub fits-at : (ranges : List (ℕ × ℕ)) (v : List ℕ) → Fits ranges v → (i : ℕ) → i < length ranges
    → ((get_or ranges i (0, 0)).0 ≤ get_or v i 0) × (get_or v i 0 < (get_or ranges i (0, 0)).0 + (get_or ranges i (0, 0)).1)
fits-at [] v f i l = absurd (omega arith)
fits-at (values ∷ ranges) [] f i l = absurd f
fits-at (values ∷ ranges) (x ∷ v) f zero l = (f.0, f.1)
fits-at (values ∷ ranges) (x ∷ v) f (suc i) l = fits-at ranges v f.2 i (omega arith)

pub fits-of : (ranges : List (ℕ × ℕ)) (v : List ℕ) → length v ≡ length ranges
    → ((i : ℕ) → i < length ranges → ((get_or ranges i (0, 0)).0 ≤ get_or v i 0) × (get_or v i 0 < (get_or ranges i (0, 0)).0 + (get_or ranges i (0, 0)).1)) → Fits ranges v
fits-of [] [] e h = tt
fits-of [] (x ∷ v) e h = absurd (omega arith)
fits-of (values ∷ ranges) [] e h = absurd (omega arith)
fits-of (values ∷ ranges) (x ∷ v) e h = let w = h 0 (omega arith) in (w.0, w.1, fits-of ranges v (omega arith) (λ i l. h (suc i) (omega arith)))
