-- Laws of tests, sums, counts and lists over places. Assumes nothing.
use mathlib.Core.Path.{◌≡◌, refl, sym, ◌∙◌, ap, ap₂}
use mathlib.Core.Bool.{Bool, true, false, cond, not, ◌&&◌, and-eq-true_iff, and-true, and-false, and_assoc, false≢true}
use mathlib.Core.List.{List, [], ◌∷◌, ◌++◌}
use mathlib.Core.Logic.{◌⊎◌, inl, inr, ◌≢◌}
use Prim.Native.Nat.{ℕ, zero, suc, ◌+◌, ◌*◌, ◌≤◌, ◌<◌, zero-le}
use native.Mathlib.Nat.{le_refl, add-zero, add-suc, mul-zero, mul-add}
use native.Mathlib.Numerals.{add-one}
use native.Mathlib.Decide.{ℕ_discrete, dec_le}
use native.Mathlib.Omega.{arith}
use lib.ListN.{length, get_or, length-append, get_or-append}
use lib.Seq.{get_or_at}
use lib.Dec.{eqb}
use borrow.Author.Tests.{eq-eqb, ne_eqb}
use Rattle.sets.specs.Places.{every, failing, sum, sum_over, count, list_of}
use Rattle.sets.specs.Sets.{Set, Sub}

-- ---- tests at every place

pub every-at : (test : Set) (n : ℕ) → every test n ≡ true → (i : ℕ) → i < n → test i ≡ true
unfolding every
every-at test zero e i l = absurd (omega arith)
every-at test (suc n) e i l =
    let w = (and-eq-true_iff (every test n) (test n)).0 e in
    elim (ℕ_discrete i n) [ yes g ↦ rw g w.1 | no g ↦ every-at test n w.0 i (omega arith) ]

pub every_of : (test : Set) (n : ℕ) → ((i : ℕ) → i < n → test i ≡ true) → every test n ≡ true
unfolding every
every_of test zero h = refl
every_of test (suc n) h = (and-eq-true_iff (every test n) (test n)).1 (every_of test n (λ i l. h i (omega arith)), h n (omega arith))

pub every-same : (p q : Set) (n : ℕ) → ((i : ℕ) → i < n → p i ≡ q i) → every p n ≡ every q n
unfolding every
every-same p q zero h = refl
every-same p q (suc n) h = ap₂ ◌&&◌ (every-same p q n (λ i l. h i (omega arith))) (h n (omega arith))

-- A loop over the places: none is passed, the test fails at a place, or passes there and the loop goes on.
pub every-none : (test : Set) → every test 0 ≡ true
unfolding every
every-none test = refl

pub every-stop : (test : Set) (n i : ℕ) → i < n → test i ≡ false → every test n ≡ false
unfolding every
every-stop test zero i l e = absurd (omega arith)
every-stop test (suc n) i l e = elim (ℕ_discrete i n) [
  | yes g ↦ ap (λ (b : Bool). every test n && b) (ap test (sym g) ∙ e) ∙ and-false (every test n)
  | no g ↦ ap (λ (b : Bool). b && test n) (every-stop test n i (omega arith) e)
]

pub every-on : (test : Set) (i : ℕ) → every test i ≡ true → test i ≡ true → every test (i + 1) ≡ true
unfolding every
every-on test i e f = rw (add-one i, e, f)

-- The places below m, and those from m on.
pub every-split : (test : Set) (m n : ℕ) → every test (m + n) ≡ every test m && every (λ i. test (m + i)) n
unfolding every
every-split test m zero = rw add-zero (sym (and-true (every test m)))
every-split test m (suc n) =
    rw add-suc (ap (λ (b : Bool). b && test (m + n)) (every-split test m n) ∙ and_assoc (every test m) (every (λ i. test (m + i)) n) (test (m + n)))

-- The loop ends at n.
pub every-end : (test : Set) {n i : ℕ} → i ≤ n → n ≤ i → every test i ≡ true → every test n ≡ true
every-end test {n} {i} l h e = let g : n ≡ i = omega arith in ap (every test) g ∙ e

-- A test passes at each place, or fails at one.
pub fails-at : (test : Set) (n : ℕ) → ((i : ℕ) → i < n → test i ≡ true) ⊎ ((i : ℕ) × (i < n) × (test i ≡ false))
fails-at test zero = inl (λ i l. absurd (omega arith))
fails-at test (suc n) = go (test n) refl (fails-at test n)
  where
    go : (b : Bool) → test n ≡ b → ((i : ℕ) → i < n → test i ≡ true) ⊎ ((i : ℕ) × (i < n) × (test i ≡ false))
        → ((i : ℕ) → i < suc n → test i ≡ true) ⊎ ((i : ℕ) × (i < suc n) × (test i ≡ false))
    go false e r = inr (n, omega arith, e)
    go true e (inl h) = inl (λ i l. elim (ℕ_discrete i n) [ yes g ↦ rw g e | no g ↦ h i (omega arith) ])
    go true e (inr w) = inr (w.0, omega arith, w.2)

-- ---- the first place at which a test fails

-- It is the first: the test passes at each place before it, and fails there.
stops : (test : Set) (n i : ℕ) → i < n → ((j : ℕ) → j < i → test j ≡ true) → test i ≡ false → failing test n ≡ i
unfolding failing
stops test zero i l h f = absurd (omega arith)
stops test (suc n) zero l h f = rw f refl
stops test (suc n) (suc i) l h f = rw (h 0 (omega arith)) (ap suc (stops (λ j. test (suc j)) n i (omega arith) (λ j g. h (suc j) (omega arith)) f))

pub failing-stop : (test : Set) (n i : ℕ) → i < n → every test i ≡ true → test i ≡ false → failing test n ≡ i
failing-stop test n i l e f = stops test n i l (every-at test i e) f

none-stops : (test : Set) (n : ℕ) → ((j : ℕ) → j < n → test j ≡ true) → failing test n ≡ n
unfolding failing
none-stops test zero h = refl
none-stops test (suc n) h = rw (h 0 (omega arith)) (ap suc (none-stops (λ j. test (suc j)) n (λ j g. h (suc j) (omega arith))))

pub failing-none : (test : Set) (n : ℕ) → every test n ≡ true → failing test n ≡ n
failing-none test n e = none-stops test n (every-at test n e)

passes-before : (test : Set) (n : ℕ) → failing test n ≡ n → (i : ℕ) → i < n → test i ≡ true
unfolding failing
passes-before test zero g i l = absurd (omega arith)
passes-before test (suc n) g i l = at (test 0) refl (passes-before (λ j. test (suc j)) n) i l
  where
    at : (b : Bool) → test 0 ≡ b → (failing (λ j. test (suc j)) n ≡ n → (i : ℕ) → i < n → test (suc i) ≡ true) → (i : ℕ) → i < suc n → test i ≡ true
    at true e later zero l = e
    at true e later (suc i) l =
        let h : suc (failing (λ j. test (suc j)) n) ≡ suc n = sym (ap (λ (b : Bool). cond b (suc (failing (λ j. test (suc j)) n)) 0) e) ∙ g in
        later (omega (arith, h)) i (omega arith)
    at false e later i l =
        let h : 0 ≡ suc n = sym (ap (λ (b : Bool). cond b (suc (failing (λ j. test (suc j)) n)) 0) e) ∙ g in
        absurd (omega (arith, h))

-- Where it fails at some place, it fails at that one.
found : (test : Set) (n i : ℕ) → i < n → test i ≡ false → (failing test n < n) × (test (failing test n) ≡ false)
unfolding failing
found test zero i l f = absurd (omega arith)
found test (suc n) i l f = by (test 0) refl i l f (found (λ j. test (suc j)) n)
  where
    later : ℕ
    later = failing (λ j. test (suc j)) n

    by : (b : Bool) → test 0 ≡ b → (i : ℕ) → i < suc n → test i ≡ false → ((j : ℕ) → j < n → test (suc j) ≡ false → (later < n) × (test (suc later) ≡ false))
        → (cond b (suc later) 0 < suc n) × (test (cond b (suc later) 0) ≡ false)
    by false e i l f on = (omega arith, e)
    by true e zero l f on = absurd (false≢true (sym f ∙ e))
    by true e (suc j) l f on = let w = on j (omega arith) f in (omega (arith, w.0), w.1)

pub failing-fails : (test : Set) (n : ℕ) → every test n ≡ false → (failing test n < n) × (test (failing test n) ≡ false)
failing-fails test n e = elim (fails-at test n) [ inl h ↦ absurd (false≢true (sym e ∙ every_of test n h)) | inr w ↦ found test n w.0 w.1 w.2 ]

-- Each place passes exactly if there is none that fails.
pub every-failing : (test : Set) (n : ℕ) → every test n ≡ eqb (failing test n) n
every-failing test n = by (every test n) refl
  where
    by : (b : Bool) → every test n ≡ b → b ≡ eqb (failing test n) n
    by true e = sym (eq-eqb (failing test n) n (failing-none test n e))
    by false e = sym (ne_eqb (failing test n) n (λ g. false≢true (sym e ∙ every_of test n (passes-before test n g))))

-- ---- sums

pub sum_mono : (f g : ℕ → ℕ) (n : ℕ) → ((i : ℕ) → i < n → f i ≤ g i) → sum f n ≤ sum g n
unfolding sum
sum_mono f g zero h = omega arith
sum_mono f g (suc n) h = omega (arith, sum_mono f g n (λ i l. h i (omega arith)), h n (omega arith))

pub sum_same : (f g : ℕ → ℕ) (n : ℕ) → ((i : ℕ) → i < n → f i ≡ g i) → sum f n ≡ sum g n
unfolding sum
sum_same f g zero h = refl
sum_same f g (suc n) h = omega (arith, sum_same f g n (λ i l. h i (omega arith)), h n (omega arith))

pub sum-zero : (f : ℕ → ℕ) (n : ℕ) → ((i : ℕ) → i < n → f i ≡ 0) → sum f n ≡ 0
unfolding sum
sum-zero f zero h = refl
sum-zero f (suc n) h = omega (arith, sum-zero f n (λ i l. h i (omega arith)), h n (omega arith))

sum-strict : (f g : ℕ → ℕ) (n : ℕ) → ((i : ℕ) → i < n → f i ≤ g i) → (k : ℕ) → k < n → f k < g k → sum f n < sum g n
unfolding sum
sum-strict f g zero h k l s = absurd (omega arith)
sum-strict f g (suc n) h k l s = elim (ℕ_discrete k n) [
  | yes e ↦ omega (arith, sum_mono f g n (λ i l'. h i (omega arith)), rw e at s)
  | no e ↦ omega (arith, sum-strict f g n (λ i l'. h i (omega arith)) k (omega arith) s, h n (omega arith))
]

pub sum-add : (f g : ℕ → ℕ) (n : ℕ) → sum (λ i. f i + g i) n ≡ sum f n + sum g n
unfolding sum
sum-add f g zero = refl
sum-add f g (suc n) = omega (arith, sum-add f g n)

-- The first place apart.
sum-shift : (f : ℕ → ℕ) (n : ℕ) → sum f (suc n) ≡ f 0 + sum (λ i. f (suc i)) n
unfolding sum
sum-shift f zero = omega arith
sum-shift f (suc n) = omega (arith, sum-shift f n)

-- Even and odd places together.
pub sum-double : (f : ℕ → ℕ) (m : ℕ) → sum f (2 * m) ≡ sum (λ i. f (2 * i) + f (suc (2 * i))) m
unfolding sum
sum-double f zero = refl
sum-double f (suc m) =
    let e : 2 * suc m ≡ suc (suc (2 * m)) = omega arith in
    ap (sum f) e ∙ omega (arith, sum-double f m)

-- ---- sums over a set

-- A summand that falls away, or gets smaller.
cond-mono : (b c : Bool) {x y : ℕ} → (b ≡ true → c ≡ true) → (b ≡ true → x ≤ y) → cond b x 0 ≤ cond c y 0
cond-mono false c h l = zero-le
cond-mono true true h l = l refl
cond-mono true false h l = absurd (false≢true (h refl))

cond_same : (b c : Bool) {x y : ℕ} → b ≡ c → (c ≡ true → x ≡ y) → cond b x 0 ≡ cond c y 0
cond_same b true e h = rw (e, h refl)
cond_same b false e h = rw e

-- Over fewer places, of smaller values.
pub over-mono : (n : ℕ) (s r : Set) (f g : ℕ → ℕ) → Sub n s r → ((i : ℕ) → i < n → s i ≡ true → f i ≤ g i) → sum_over n s f ≤ sum_over n r g
unfolding sum_over
over-mono n s r f g h k = sum_mono _ _ n (λ i l. cond-mono (s i) (r i) (h i l) (k i l))

pub over-same : (n : ℕ) (s r : Set) (f g : ℕ → ℕ) → ((i : ℕ) → i < n → s i ≡ r i) → ((i : ℕ) → i < n → r i ≡ true → f i ≡ g i) → sum_over n s f ≡ sum_over n r g
unfolding sum_over
over-same n s r f g h k = sum_same _ _ n (λ i l. cond_same (s i) (r i) (h i l) (k i l))

pub over_zero : (n : ℕ) (s : Set) (f : ℕ → ℕ) → ((i : ℕ) → i < n → s i ≡ true → f i ≡ 0) → sum_over n s f ≡ 0
unfolding sum_over
over_zero n s f h = sum-zero _ n (λ i l. go (s i) (h i l))
  where
    go : {x : ℕ} (b : Bool) → (b ≡ true → x ≡ 0) → cond b x 0 ≡ 0
    go true e = e refl
    go false e = refl

-- Places that add nothing may be left out at the end.
pub over-cut : (n m : ℕ) (s : Set) (f : ℕ → ℕ) → n ≤ m → ((i : ℕ) → n ≤ i → i < m → s i ≡ true → f i ≡ 0) → sum_over m s f ≡ sum_over n s f
unfolding sum_over sum
over-cut n zero s f l h = let e : n ≡ 0 = omega arith in rw e
over-cut n (suc m) s f l h = elim (ℕ_discrete n (suc m)) [
  | yes e ↦ rw e
  | no e ↦ omega (arith, over-cut n m s f (omega arith) (λ i a b. h i a (omega arith)), at (s m) (h m (omega arith) (omega arith)))
]
  where
    at : (b : Bool) → (b ≡ true → f m ≡ 0) → cond b (f m) 0 ≡ 0
    at true z = z refl
    at false z = refl

-- A factor of every value.
pub over-scale : (n t : ℕ) (s : Set) (f : ℕ → ℕ) → sum_over n s (λ i. t * f i) ≡ t * sum_over n s f
unfolding sum_over sum
over-scale zero t s f = sym (mul-zero t)
over-scale (suc n) t s f =
    omega (arith, over-scale n t s f, mul-add t (sum (λ i. cond (s i) (f i) 0) n) (cond (s n) (f n) 0), at (s n))
  where
    at : (b : Bool) → cond b (t * f n) 0 ≡ t * cond b (f n) 0
    at true = refl
    at false = sym (mul-zero t)

pub over-plus : (n : ℕ) (s : Set) (f g : ℕ → ℕ) → sum_over n s (λ i. f i + g i) ≡ sum_over n s f + sum_over n s g
unfolding sum_over sum
over-plus zero s f g = refl
over-plus (suc n) s f g = omega (arith, over-plus n s f g, at (s n))
  where
    at : (b : Bool) → cond b (f n + g n) 0 ≡ cond b (f n) 0 + cond b (g n) 0
    at true = refl
    at false = refl

-- The places of a set that pass a test, and the others.
pub over-split : (n : ℕ) (s test : Set) (f : ℕ → ℕ) → sum_over n s f ≡ sum_over n (λ i. s i && not (test i)) f + sum_over n (λ i. s i && test i) f
unfolding sum_over sum
over-split zero s test f = refl
over-split (suc n) s test f = omega (arith, over-split n s test f, at (s n) (test n))
  where
    at : (b c : Bool) → cond b (f n) 0 ≡ cond (b && not c) (f n) 0 + cond (b && c) (f n) 0
    at true true = omega arith
    at true false = omega arith
    at false c = refl

-- A loop that sums over a set: no place is passed, and place n is in the set or not, by the test b that the code made.
pub over_none : (s : Set) (f : ℕ → ℕ) → sum_over 0 s f ≡ 0
unfolding sum_over sum
over_none s f = refl

pub over-in : (n : ℕ) (s : Set) (f : ℕ → ℕ) {b : Bool} → b ≡ s n → b ≡ true → sum_over (n + 1) s f ≡ sum_over n s f + f n
unfolding sum_over sum
over-in n s f t e = rw add-one (ap (λ (x : Bool). sum (λ i. cond (s i) (f i) 0) n + cond x (f n) 0) (sym t ∙ e))

pub over-out : (n : ℕ) (s : Set) (f : ℕ → ℕ) {b : Bool} → b ≡ s n → b ≡ false → sum_over (n + 1) s f ≡ sum_over n s f
unfolding sum_over sum
over-out n s f t e =
    rw add-one (ap (λ (x : Bool). sum (λ i. cond (s i) (f i) 0) n + cond x (f n) 0) (sym t ∙ e) ∙ add-zero (sum (λ i. cond (s i) (f i) 0) n))

-- ---- counts

pub count_same : (n : ℕ) (s r : Set) → ((i : ℕ) → i < n → s i ≡ r i) → count n s ≡ count n r
unfolding count
count_same n s r h = over-same n s r (λ i. 1) (λ i. 1) h (λ i l e. refl)

pub count_none : (s : Set) → count 0 s ≡ 0
unfolding count
count_none s = over_none s (λ i. 1)

pub count-in : (n : ℕ) (s : Set) {b : Bool} → b ≡ s n → b ≡ true → count (n + 1) s ≡ count n s + 1
unfolding count
count-in n s t e = over-in n s (λ i. 1) t e

pub count-out : (n : ℕ) (s : Set) {b : Bool} → b ≡ s n → b ≡ false → count (n + 1) s ≡ count n s
unfolding count
count-out n s t e = over-out n s (λ i. 1) t e

count-suc : (n : ℕ) (s : Set) → count (suc n) s ≡ count n s + cond (s n) 1 0
unfolding count sum_over sum
count-suc n s = refl

pub count-first : (n : ℕ) (s : Set) → count (suc n) s ≡ cond (s 0) 1 0 + count n (λ i. s (suc i))
unfolding count sum_over
count-first n s = sum-shift (λ i. cond (s i) 1 0) n

-- A set within another that lacks one of its places counts fewer.
count_less : (n : ℕ) (r s : Set) → Sub n s r → (k : ℕ) → k < n → r k ≡ true → s k ≡ false → count n s < count n r
unfolding count sum_over
count_less n r s h k l e g = sum-strict _ _ n (λ i l'. cond-mono (s i) (r i) (h i l') (λ x. le_refl 1)) k l (rw (g, e) (omega arith))

-- A place that is in the set counts.
pub count-one : (n : ℕ) (s : Set) (k : ℕ) → k < n → s k ≡ true → 1 ≤ count n s
count-one n s k l e = omega (arith, count_less n s (λ i. false) (λ i l' x. absurd (false≢true x)) k l e refl)

-- Two places that are in the set count as two.
pub count-two : (n : ℕ) (s : Set) (i k : ℕ) → i ≢ k → i < n → k < n → s i ≡ true → s k ≡ true → 2 ≤ count n s
count-two n s i k d il kl ei ek = elim (dec_le i k) [
  | yes h ↦ below n s i k (omega (arith, h, d)) kl ei ek
  | no h ↦ below n s k i (omega (arith, h)) il ek ei
]
  where
    below : (n : ℕ) (s : Set) (i k : ℕ) → i < k → k < n → s i ≡ true → s k ≡ true → 2 ≤ count n s
    below zero s i k h l ei ek = absurd (omega arith)
    below (suc n) s i k h l ei ek = elim (ℕ_discrete k n) [
      | yes e ↦ omega (arith, count-suc n s, ap {B = ℕ} (λ (b : Bool). cond b 1 0) (ap s (sym e) ∙ ek), count-one n s i (omega arith) ei)
      | no e ↦ omega (arith, count-suc n s, below n s i k h (omega arith) ei ek)
    ]

-- Where one is counted, a place is in the set.
count-some : (n : ℕ) (s : Set) → 1 ≤ count n s → (i : ℕ) × (i < n) × (s i ≡ true)
count-some zero s h = absurd (omega (arith, count_none s))
count-some (suc n) s h = go (s n) refl (rw (count-suc n s) at h) (count-some n s)
  where
    go : (b : Bool) → s n ≡ b → 1 ≤ count n s + cond b 1 0 → (1 ≤ count n s → (i : ℕ) × (i < n) × (s i ≡ true)) → (i : ℕ) × (i < suc n) × (s i ≡ true)
    go true e l ih = (n, omega arith, e)
    go false e l ih = let w = ih (omega arith) in (w.0, omega (arith, w.1), w.2)

-- Where two are counted, another place than k is in the set.
pub count-other : (n : ℕ) (s : Set) (k : ℕ) → 2 ≤ count n s → (i : ℕ) × (i < n) × (s i ≡ true) × (i ≢ k)
count-other zero s k h = absurd (omega (arith, count_none s))
count-other (suc n) s k h = go (s n) refl (rw (count-suc n s) at h) (count-other n s k)
  where
    go : (b : Bool) → s n ≡ b → 2 ≤ count n s + cond b 1 0 → (2 ≤ count n s → (i : ℕ) × (i < n) × (s i ≡ true) × (i ≢ k))
        → (i : ℕ) × (i < suc n) × (s i ≡ true) × (i ≢ k)
    go false e l ih = let w = ih (omega arith) in (w.0, omega (arith, w.1), w.2, w.3)
    go true e l ih = elim (ℕ_discrete n k) [
      | yes g ↦ let w = count-some n s (omega arith) in (w.0, omega (arith, w.1), w.2, λ z. omega (arith, w.1, z, g))
      | no g ↦ (n, omega arith, e, g)
    ]

-- One is counted exactly where the set has one place.
pub count-only : (n : ℕ) (s : Set) (i k : ℕ) → count n s ≡ 1 → i < n → k < n → s i ≡ true → s k ≡ true → i ≡ k
count-only n s i k c il kl ei ek = elim (ℕ_discrete i k) [
  | yes e ↦ e
  | no e ↦ absurd (omega (arith, count-two n s i k e il kl ei ek))
]

pub count-alone : (n : ℕ) (s : Set) (k : ℕ) → k < n → s k ≡ true → ((i : ℕ) → i < n → s i ≡ true → i ≡ k) → count n s ≡ 1
count-alone n s k l e h = elim (dec_le 2 (count n s)) [
  | yes g ↦ absurd (let w = count-other n s k g in w.3 (h w.0 w.1 w.2))
  | no g ↦ omega (arith, count-one n s k l e, g)
]

-- ---- lists

pub list-suc : {A : Type 0} (f : ℕ → A) (n : ℕ) → list_of f (suc n) ≡ list_of f n ++ (f n ∷ [])
unfolding list_of
list-suc f n = refl

pub list_length : {A : Type 0} (f : ℕ → A) (n : ℕ) → length (list_of f n) ≡ n
unfolding list_of
list_length f zero = refl
list_length f (suc n) = length-append (list_of f n) (f n ∷ []) ∙ omega (arith, list_length f n)

pub list_at : {A : Type 0} (f : ℕ → A) (n i : ℕ) (z : A) → i < n → get_or (list_of f n) i z ≡ f i
unfolding list_of
list_at f zero i z l = absurd (omega arith)
list_at f (suc n) i z l = elim (ℕ_discrete i n) [
  | yes e ↦ get_or_at (list_of f n) (f n) [] z i (list_length f n ∙ sym e) ∙ ap f (sym e)
  | no e ↦ get_or-append (list_of f n) (f n ∷ []) z i (omega (arith, list_length f n)) ∙ list_at f n i z (omega arith)
]

pub list_same : {A : Type 0} (f g : ℕ → A) (n : ℕ) → ((i : ℕ) → i < n → f i ≡ g i) → list_of f n ≡ list_of g n
unfolding list_of
list_same f g zero h = refl
list_same {A} f g (suc n) h = ap₂ (λ (l : List A) (x : A). l ++ (x ∷ [])) (list_same f g n (λ i l. h i (omega arith))) (h n (omega arith))
