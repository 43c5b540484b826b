-- The order of the sets of n jobs follows the table's rule, for every n. Assumes nothing.
use mathlib.Core.Path.{◌≡◌, refl, sym, ◌∙◌, ap, subst}
use mathlib.Core.Bool.{Bool, true, false, cond, false≢true}
use mathlib.Core.Logic.{◌⊎◌, inl, inr, ⊎_elim}
use mathlib.Core.List.Memᴰ
use mathlib.Core.List.{List, [], ◌∷◌, ◌++◌, Memᴰ}
use Prim.Native.Nat.{ℕ, zero, suc, ◌+◌, ◌-◌, ◌^◌, ◌≤◌, ◌<◌}
use native.Mathlib.Decide.{ℕ_discrete, dec_le}
use native.Mathlib.Omega.{arith}
use lib.Dec.{eqb}
use lib.ListN.{length, get_or}
use lib.Pow.{pow_pos}
use borrow.Author.Tests.{eq-eqb, eqb-true}
use Rattle.sets.specs.Sets.{places, size}
use Rattle.sets.specs.Order.{range, keep, of_size, sizes_from, in_order, order, Rule, Pairwise, BySize}
use Rattle.sets.proofs.Parts.{size-bound, size-pos}
use Rattle.sets.proofs.Table.{table, table-order}

-- ---- members of the lists that make up the order

range-in : (n i x : ℕ) → i ≤ x → x < i + n → Memᴰ x (range i n)
unfolding range
range-in zero i x l h = absurd (omega arith)
range-in (suc n) i x l h = elim (ℕ_discrete x i) [ yes e ↦ Memᴰ.head e | no e ↦ Memᴰ.tail (range-in n (suc i) x (omega arith) (omega arith)) ]

pub range-out : (n i x : ℕ) → Memᴰ x (range i n) → (i ≤ x) × (x < i + n)
unfolding range
range-out zero i x t = absurd (Memᴰ.not-nil t)
range-out (suc n) i x t = go (range-out n (suc i) x) (Memᴰ.cases_cons t)
  where
    go : (Memᴰ x (range (suc i) n) → (suc i ≤ x) × (x < suc i + n)) → (x ≡ i) ⊎ Memᴰ x (range (suc i) n) → (i ≤ x) × (x < i + suc n)
    go ih (inl e) = omega arith
    go ih (inr t) = let w = ih t in omega (arith, w.0, w.1)

module _ {A : Type 0} (test : A → Bool) where
  pub keep-in : (xs : List A) (x : A) → Memᴰ x xs → test x ≡ true → Memᴰ x (keep test xs)
  unfolding keep
  keep-in [] x t e = t
  keep-in (y ∷ ys) x t e = go (test y) refl (keep-in ys x) (Memᴰ.cases_cons t)
    where
      go : (b : Bool) → test y ≡ b → (Memᴰ x ys → test x ≡ true → Memᴰ x (keep test ys)) → (x ≡ y) ⊎ Memᴰ x ys → Memᴰ x (cond b (y ∷ keep test ys) (keep test ys))
      go true g ih (inl h) = Memᴰ.head h
      go true g ih (inr t) = Memᴰ.tail (ih t e)
      go false g ih (inl h) = absurd (false≢true (sym g ∙ ap test (sym h) ∙ e))
      go false g ih (inr t) = ih t e

  pub keep_out : (xs : List A) (x : A) → Memᴰ x (keep test xs) → Memᴰ x xs × (test x ≡ true)
  unfolding keep
  keep_out [] x t = absurd (Memᴰ.not-nil t)
  keep_out (y ∷ ys) x t = go (test y) refl (keep_out ys x) t
    where
      go : (b : Bool) → test y ≡ b → (Memᴰ x (keep test ys) → Memᴰ x ys × (test x ≡ true)) → Memᴰ x (cond b (y ∷ keep test ys) (keep test ys)) → Memᴰ x (y ∷ ys) × (test x ≡ true)
      go true g ih t = ⊎_elim (λ e. (Memᴰ.head e, ap test e ∙ g)) (λ u. (Memᴰ.tail (ih u).0, (ih u).1)) (Memᴰ.cases_cons t)
      go false g ih t = (Memᴰ.tail (ih t).0, (ih t).1)

  -- The members of two lists together that pass a test, and those of a list of which none does.
  pub keep_append : (xs ys : List A) → keep test (xs ++ ys) ≡ keep test xs ++ keep test ys
  unfolding keep
  keep_append [] ys = refl
  keep_append (x ∷ xs) ys = go (test x) (keep_append xs ys)
    where
      go : (b : Bool) → keep test (xs ++ ys) ≡ keep test xs ++ keep test ys
          → cond b (x ∷ keep test (xs ++ ys)) (keep test (xs ++ ys)) ≡ cond b (x ∷ keep test xs) (keep test xs) ++ keep test ys
      go true ih = ap (λ (zs : List A). x ∷ zs) ih
      go false ih = ih

  pub keep-none : (xs : List A) → ((x : A) → Memᴰ x xs → test x ≡ false) → keep test xs ≡ []
  unfolding keep
  keep-none [] h = refl
  keep-none (x ∷ xs) h = rw (h x (Memᴰ.head refl)) (keep-none xs (λ y t. h y (Memᴰ.tail t)))

  -- The members that pass two tests; no more are kept than there are.
  pub keep-twice : (other : A → Bool) (xs : List A) → ((x : A) → test x ≡ true → other x ≡ true) → keep test (keep other xs) ≡ keep test xs
  unfolding keep
  keep-twice other [] h = refl
  keep-twice other (x ∷ xs) h = go (other x) (test x) refl refl (keep-twice other xs h)
    where
      go : (a b : Bool) → other x ≡ a → test x ≡ b → keep test (keep other xs) ≡ keep test xs
          → keep test (cond a (x ∷ keep other xs) (keep other xs)) ≡ cond b (x ∷ keep test xs) (keep test xs)
      go true true e f ih = rw f (ap (λ (zs : List A). x ∷ zs) ih)
      go true false e f ih = rw f ih
      go false true e f ih = absurd (false≢true (sym e ∙ h x f))
      go false false e f ih = ih

  pub keep-few : (xs : List A) → length (keep test xs) ≤ length xs
  unfolding keep
  keep-few [] = omega arith
  keep-few (x ∷ xs) = go (test x) (keep-few xs)
    where
      go : (b : Bool) → length (keep test xs) ≤ length xs → length (cond b (x ∷ keep test xs) (keep test xs)) ≤ suc (length xs)
      go true ih = omega arith
      go false ih = omega arith

pub size_in : (n m s : ℕ) → 0 < s → s < 2 ^ n → size s ≡ m → Memᴰ s (of_size n m)
unfolding of_size
size_in n m s p b e = keep-in (λ x. eqb (size x) m) (range 1 (2 ^ n - 1)) s (range-in (2 ^ n - 1) 1 s p (omega (arith, pow_pos n))) (eq-eqb (size s) m e)

pub size-out : (n m s : ℕ) → Memᴰ s (of_size n m) → (0 < s) × (s < 2 ^ n) × (size s ≡ m)
unfolding of_size
size-out n m s t =
    let w = keep_out (λ x. eqb (size x) m) (range 1 (2 ^ n - 1)) s t in
    let r = range-out (2 ^ n - 1) 1 s w.0 in
    (r.0, omega (arith, r.1, pow_pos n), eqb-true (size s) m w.1)

sizes-in : (n k m s : ℕ) → 0 < s → s < 2 ^ n → m ≤ size s → size s < m + k → Memᴰ s (sizes_from n m k)
unfolding sizes_from
sizes-in n zero m s p b l h = absurd (omega arith)
sizes-in n (suc k) m s p b l h = elim (ℕ_discrete (size s) m) [
  | yes e ↦ Memᴰ.append_left (sizes_from n (suc m) k) (size_in n m s p b e)
  | no e ↦ Memᴰ.append_right (of_size n m) (sizes-in n k (suc m) s p b (omega arith) (omega arith))
]

sizes-out : (n k m s : ℕ) → Memᴰ s (sizes_from n m k) → (0 < s) × (s < 2 ^ n) × (m ≤ size s)
unfolding sizes_from
sizes-out n zero m s t = absurd (Memᴰ.not-nil t)
sizes-out n (suc k) m s t = ⊎_elim
    (λ a. let w = size-out n m s a in (w.0, w.1, omega (arith, w.2)))
    (λ b. let w = sizes-out n k (suc m) s b in (w.0, w.1, omega (arith, w.2)))
    (Memᴰ.append_cases (of_size n m) t)

-- Each non-empty set of n jobs is in the order, and nothing else is.
pub order-in : (n s : ℕ) → 0 < s → s < 2 ^ n → Memᴰ s (in_order n)
unfolding in_order
order-in n s p b = sizes-in n n 1 s p b (size-pos n s b p) (omega (arith, size-bound n s b))

pub order-out : (n s : ℕ) → Memᴰ s (in_order n) → (0 < s) × (s < 2 ^ n)
unfolding in_order
order-out n s t = let w = sizes-out n n 1 s t in (w.0, w.1)

-- ---- entries and their places

pub member-at : (xs : List ℕ) (p : ℕ) → p < length xs → Memᴰ (get_or xs p 0) xs
member-at [] p l = absurd (omega arith)
member-at (x ∷ xs) zero l = Memᴰ.head refl
member-at (x ∷ xs) (suc p) l = Memᴰ.tail (member-at xs p (omega arith))

pub place-of : (xs : List ℕ) (x : ℕ) → Memᴰ x xs → (p : ℕ) × (p < length xs) × (get_or xs p 0 ≡ x)
place-of [] x t = absurd (Memᴰ.not-nil t)
place-of (y ∷ ys) x t = go (place-of ys x) (Memᴰ.cases_cons t)
  where
    go : (Memᴰ x ys → (p : ℕ) × (p < length ys) × (get_or ys p 0 ≡ x)) → (x ≡ y) ⊎ Memᴰ x ys → (p : ℕ) × (p < suc (length ys)) × (get_or (y ∷ ys) p 0 ≡ x)
    go ih (inl e) = (0, omega arith, sym e)
    go ih (inr u) = let w = ih u in (suc w.0, omega (arith, w.1), w.2)

-- ---- what holds between an entry and each later one

module _ (R : ℕ → ℕ → Type 0) where
  pub keep-pairwise : (test : ℕ → Bool) (xs : List ℕ) → Pairwise R xs → Pairwise R (keep test xs)
  unfolding keep
  keep-pairwise test [] o = tt
  keep-pairwise test (x ∷ xs) o = go (test x) (keep-pairwise test xs o.1)
    where
      go : (b : Bool) → Pairwise R (keep test xs) → Pairwise R (cond b (x ∷ keep test xs) (keep test xs))
      go true ih = (λ y t. o.0 y (keep_out test xs y t).0, ih)
      go false ih = ih

  pub append-pairwise : (xs ys : List ℕ) → Pairwise R xs → Pairwise R ys → ((x y : ℕ) → Memᴰ x xs → Memᴰ y ys → R x y) → Pairwise R (xs ++ ys)
  append-pairwise [] ys o u h = u
  append-pairwise (x ∷ xs) ys o u h = (
    λ y t. ⊎_elim (λ a. o.0 y a) (λ b. h x y (Memᴰ.head refl) b) (Memᴰ.append_cases xs t),
    append-pairwise xs ys o.1 u (λ a b s t. h a b (Memᴰ.tail s) t),
  )

  pub pairwise-at : (xs : List ℕ) → Pairwise R xs → (p q : ℕ) → p < q → q < length xs → R (get_or xs p 0) (get_or xs q 0)
  pairwise-at [] o p q l h = absurd (omega arith)
  pairwise-at (x ∷ xs) o p zero l h = absurd (omega arith)
  pairwise-at (x ∷ xs) o zero (suc q) l h = o.0 (get_or xs q 0) (member-at xs q (omega arith))
  pairwise-at (x ∷ xs) o (suc p) (suc q) l h = pairwise-at xs o.1 p q (omega arith) (omega arith)

-- What holds of each entry may be used.
pub pairwise-among : (R Q : ℕ → ℕ → Type 0) (xs : List ℕ) → ((x y : ℕ) → Memᴰ x xs → Memᴰ y xs → R x y → Q x y) → Pairwise R xs → Pairwise Q xs
pairwise-among R Q [] h o = tt
pairwise-among R Q (x ∷ xs) h o = (
  λ y t. h x y (Memᴰ.head refl) (Memᴰ.tail t) (o.0 y t),
  pairwise-among R Q xs (λ a b s t. h a b (Memᴰ.tail s) (Memᴰ.tail t)) o.1,
)

-- A relation that no entry has to itself: each entry stands at one place.
pub one_place : (R : ℕ → ℕ → Type 0) → ((x : ℕ) → R x x → ⊥) → (xs : List ℕ) → Pairwise R xs → (p q : ℕ) {s : ℕ}
    → p < length xs → q < length xs → get_or xs p 0 ≡ s → get_or xs q 0 ≡ s → q ≡ p
one_place R never xs o p q {s} lp lq e f = elim (ℕ_discrete q p) [
  | yes g ↦ g
  | no g ↦ elim (dec_le q p) [
    | yes h ↦ absurd (apart q p (omega arith) lp f e)
    | no h ↦ absurd (apart p q (omega arith) lq e f)
  ]
]
  where
    apart : (p q : ℕ) → p < q → q < length xs → get_or xs p 0 ≡ s → get_or xs q 0 ≡ s → ⊥
    apart p q l h e f = never s (subst (λ (x : ℕ). R s x) f (subst (λ (x : ℕ). R x (get_or xs q 0)) e (pairwise-at R xs o p q l h)))

-- The smaller set first, among sets of one size the smaller number first.
record Before (s t : ℕ) : Type 0 where
  pub sizes : size s ≤ size t
  pub numbers : size s ≡ size t → s < t

pub range_pairwise : (n i : ℕ) → Pairwise ◌<◌ (range i n)
unfolding range
range_pairwise zero i = tt
range_pairwise (suc n) i = (λ y t. (range-out n (suc i) y t).0, range_pairwise n (suc i))

size-pairwise : (n m : ℕ) → Pairwise Before (of_size n m)
unfolding of_size
size-pairwise n m =
    pairwise-among ◌<◌ Before (of_size n m) (λ x y s t l. let e : size x ≡ size y = omega (arith, (size-out n m x s).2, (size-out n m y t).2) in record { sizes = omega arith; numbers = λ g. l })
    (keep-pairwise ◌<◌ (λ s. eqb (size s) m) (range 1 (2 ^ n - 1)) (range_pairwise (2 ^ n - 1) 1))

sizes-pairwise : (n k m : ℕ) → Pairwise Before (sizes_from n m k)
unfolding sizes_from
sizes-pairwise n zero m = tt
sizes-pairwise n (suc k) m =
    append-pairwise Before (of_size n m) (sizes_from n (suc m) k) (size-pairwise n m) (sizes-pairwise n k (suc m)) (λ x y s t.
    let l : size x < size y = omega (arith, (size-out n m x s).2, (sizes-out n k (suc m) y t).2) in
    record { sizes = omega arith; numbers = λ e. omega arith })

order-pairwise : (n : ℕ) → Pairwise Before (in_order n)
unfolding in_order
order-pairwise n = sizes-pairwise n n 1

-- ---- the rule

pub rule : (n : ℕ) → Rule n (in_order n)
rule n = record {
  once = λ s p b.
      let w = place-of (in_order n) s (order-in n s p b) in
      (w.0, w.1, w.2, λ q l e. one_place Before (λ x h. omega (arith, h.numbers refl)) (in_order n) (order-pairwise n) w.0 q w.1 l w.2 e);
  only = λ p l. order-out n (get_or (in_order n) p 0) (member-at (in_order n) p l);
  sizes = λ p q l h. (pairwise-at Before (in_order n) (order-pairwise n) p q l h).sizes;
  numbers = λ p q l h. (pairwise-at Before (in_order n) (order-pairwise n) p q l h).numbers;
}

-- The rule of the table of the code.
pub table-rule : Rule places table
unfolding order
table-rule = subst (λ (sequence : List ℕ). Rule places sequence) (sym table-order) (rule places)

pub by_size : (n : ℕ) → BySize n (in_order n)
by_size n = record {
  only = order-out n;
  rising = pairwise-among Before _ (in_order n) (λ s t a b h. (h.sizes, λ e. omega (arith, h.numbers (ap size e)))) (order-pairwise n);
}
