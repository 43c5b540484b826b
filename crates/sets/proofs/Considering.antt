-- Which sets are considered, and the ceiling on their number: for any sequence in which sizes never fall and any test of what can be taken.
-- Assumes nothing.
use mathlib.Core.Path.{◌≡◌, refl, sym, ◌∙◌, ap}
use mathlib.Core.Bool.{Bool, true, false, not, ◌&&◌, and-eq-true_iff}
use mathlib.Core.Logic.{◌⊎◌, inl, inr, ◌≢◌, ⊎_elim}
use mathlib.Core.List.Memᴰ
use mathlib.Core.List.{List, [], ◌∷◌, ◌++◌, Memᴰ}
use Prim.Native.Nat.{ℕ, zero, suc, ◌+◌, ◌-◌, ◌^◌, ◌≤◌, ◌<◌, min}
use native.Mathlib.Nat.{le_refl}
use native.Mathlib.Omega.{arith}
use lib.Dec.{eqb, leb, ltb}
use lib.ListN.{length}
use lib.Pow.{pow_pos, pow_mono}
use borrow.Author.Tests.{eq-eqb, ne_eqb, eqb-true, eqb-false, lt-ltb, le-ltb, lt-leb, le-leb}
use Rattle.sets.specs.Places.{sum}
use Rattle.sets.specs.Sets.{places, rest, within, size, first_jobs}
use Rattle.sets.specs.Order.{Pairwise, BySize, subsets, first_taken, considered, considered_count}
use Rattle.sets.proofs.Places.{sum_mono, sum-add}
use Rattle.sets.proofs.Parts.{within-le, rest_lt, size-full}
use Rattle.sets.proofs.Ordering.{keep-pairwise, keep_out}
use Rattle.sets.proofs.Counting.{one, between, sum_one, sum-out, count-between, count-within, none_within, size_less}

-- ---- the first set that can be taken, and those considered

module _ (takeable : ℕ → Bool) where
  pub first-hit : (s : ℕ) (sets : List ℕ) → takeable s ≡ true → (first_taken takeable (s ∷ sets) ≡ s) × (considered takeable (s ∷ sets) ≡ s ∷ [])
  unfolding first_taken considered
  first-hit s sets e = (rw (e, first_taken), rw (e, considered))

  pub first-miss : (s : ℕ) (sets : List ℕ) → takeable s ≡ false
      → (first_taken takeable (s ∷ sets) ≡ first_taken takeable sets) × (considered takeable (s ∷ sets) ≡ s ∷ considered takeable sets)
  unfolding first_taken considered
  first-miss s sets e = (rw (e, first_taken), rw (e, considered))

  -- None can be taken: each fails, and all are considered.
  pub record Tried (sets : List ℕ) : Type 0 where
    pub first : first_taken takeable sets ≡ 0
    pub each : (s : ℕ) → Memᴰ s sets → takeable s ≡ false
    pub all : considered takeable sets ≡ sets

  -- One is taken: it stands after sets that cannot be taken, and these and it are considered.
  pub record Took (sets : List ℕ) : Type 0 where
    pub set : ℕ
    pub before : List ℕ
    pub after : List ℕ
    pub first : first_taken takeable sets ≡ set
    pub taken : takeable set ≡ true
    pub split : sets ≡ before ++ (set ∷ after)
    pub count : length (considered takeable sets) ≡ suc (length before)

  pub tried-or-took : (sets : List ℕ) → Tried sets ⊎ Took sets
  unfolding first_taken considered
  tried-or-took [] = inl (record { first = refl; each = λ s t. absurd (Memᴰ.not-nil t); all = refl })
  tried-or-took (s ∷ sets) = go (takeable s) refl (tried-or-took sets)
    where
      go : (b : Bool) → takeable s ≡ b → Tried sets ⊎ Took sets → Tried (s ∷ sets) ⊎ Took (s ∷ sets)
      go true e w = inr (record { set = s; before = []; after = sets; first = (first-hit s sets e).0; taken = e; split = refl; count = ap length (first-hit s sets e).1 })
      go false e (inl w) = inl (record {
        first = (first-miss s sets e).0 ∙ w.first;
        each = λ x t. ⊎_elim (λ g. ap takeable g ∙ e) (w.each x) (Memᴰ.cases_cons t);
        all = (first-miss s sets e).1 ∙ ap (λ (l : List ℕ). s ∷ l) w.all;
      })
      go false e (inr w) = inr (record {
        set = w.set;
        before = s ∷ w.before;
        after = w.after;
        first = (first-miss s sets e).0 ∙ w.first;
        taken = w.taken;
        split = ap (λ (l : List ℕ). s ∷ l) w.split;
        count = ap length (first-miss s sets e).1 ∙ ap suc w.count;
      })

  -- Two lists one after the other: what is taken of the first, and the second where nothing is.
  pub append-hit : (sets after : List ℕ) → 0 < first_taken takeable sets
      → (first_taken takeable (sets ++ after) ≡ first_taken takeable sets) × (considered takeable (sets ++ after) ≡ considered takeable sets)
  unfolding first_taken
  append-hit [] after p = absurd (omega arith)
  append-hit (s ∷ sets) after p = go (takeable s) refl (append-hit sets after)
    where
      go : (b : Bool) → takeable s ≡ b
          → (0 < first_taken takeable sets → (first_taken takeable (sets ++ after) ≡ first_taken takeable sets) × (considered takeable (sets ++ after) ≡ considered takeable sets))
          → (first_taken takeable (s ∷ (sets ++ after)) ≡ first_taken takeable (s ∷ sets)) × (considered takeable (s ∷ (sets ++ after)) ≡ considered takeable (s ∷ sets))
      go true e ih =
          let a = first-hit s (sets ++ after) e in
          let b = first-hit s sets e in
          (a.0 ∙ sym b.0, a.1 ∙ sym b.1)
      go false e ih =
          let a = first-miss s (sets ++ after) e in
          let b = first-miss s sets e in
          let w = ih (omega (arith, b.0)) in
          (a.0 ∙ w.0 ∙ sym b.0, a.1 ∙ ap (λ (l : List ℕ). s ∷ l) w.1 ∙ sym b.1)

  pub append-miss : (sets after : List ℕ) → ((s : ℕ) → Memᴰ s sets → 0 < s) → first_taken takeable sets ≡ 0
      → (first_taken takeable (sets ++ after) ≡ first_taken takeable after)
      × (length (considered takeable (sets ++ after)) ≡ length (considered takeable sets) + length (considered takeable after))
  unfolding considered
  append-miss [] after some z = (refl, omega arith)
  append-miss (s ∷ sets) after some z = go (takeable s) refl (append-miss sets after (λ x t. some x (Memᴰ.tail t)))
    where
      go : (b : Bool) → takeable s ≡ b
          → (first_taken takeable sets ≡ 0
          → (first_taken takeable (sets ++ after) ≡ first_taken takeable after)
          × (length (considered takeable (sets ++ after)) ≡ length (considered takeable sets) + length (considered takeable after)))
          → (first_taken takeable (s ∷ (sets ++ after)) ≡ first_taken takeable after)
          × (length (considered takeable (s ∷ (sets ++ after))) ≡ length (considered takeable (s ∷ sets)) + length (considered takeable after))
      go true e ih = absurd (omega (arith, some s (Memᴰ.head refl), (first-hit s sets e).0))
      go false e ih =
          let a = first-miss s (sets ++ after) e in
          let b = first-miss s sets e in
          let w = ih (sym b.0 ∙ z) in
          (a.0 ∙ w.0, omega (arith, ap length a.1, ap length b.1, w.1))

  -- No more are considered than there are.
  pub considered-few : (sets : List ℕ) → length (considered takeable sets) ≤ length sets
  unfolding considered
  considered-few [] = omega arith
  considered-few (s ∷ sets) = go (takeable s) refl (considered-few sets)
    where
      go : (b : Bool) → takeable s ≡ b → length (considered takeable sets) ≤ length sets → length (considered takeable (s ∷ sets)) ≤ suc (length sets)
      go true e ih = omega (arith, ap length (first-hit s sets e).1)
      go false e ih = omega (arith, ap length (first-miss s sets e).1)

-- The set taken lies within the set left.
pub first-le : (takeable : ℕ → Bool) (left : ℕ) (sequence : List ℕ) → first_taken takeable (subsets left sequence) ≤ left
unfolding subsets
first-le takeable left sequence = ⊎_elim
    (λ w. omega (arith, w.first))
    (λ w.
    let listed = keep_out (λ s. within s left) sequence w.set (rw w.split (Memᴰ.append_right w.before (Memᴰ.head refl))) in
    omega (arith, w.first, within-le w.set left listed.1))
    (tried-or-took takeable (subsets left sequence))

-- ---- one level

-- A list without repeats, all of whose members pass a test, is no longer than the number of those that pass.
short : (xs : List ℕ) (n : ℕ) (test : ℕ → Bool) → Pairwise (λ s t. (size s ≤ size t) × (s ≢ t)) xs → ((x : ℕ) → Memᴰ x xs → (x < n) × (test x ≡ true))
    → length xs ≤ sum (λ x. one (test x)) n
short [] n test o h = omega arith
short (x ∷ xs) n test o h =
    let w = h x (Memᴰ.head refl) in
    omega (
      arith,
      sum-out test x n w.0 w.1,
      short xs n (λ i. test i && not (eqb i x)) o.1 (λ y t.
          let v = h y (Memᴰ.tail t) in
          (v.0, (and-eq-true_iff (test y) (not (eqb y x))).1 (v.1, ap not (ne_eqb y x (λ e. (o.0 y t).1 (sym e)))))),
    )

before-facts : (before after : List ℕ) (s : ℕ) → Pairwise (λ s t. (size s ≤ size t) × (s ≢ t)) (before ++ (s ∷ after))
    → Pairwise (λ s t. (size s ≤ size t) × (s ≢ t)) before × ((x : ℕ) → Memᴰ x before → (size x ≤ size s) × (x ≢ s))
before-facts [] after s o = (tt, λ x t. absurd (Memᴰ.not-nil t))
before-facts (y ∷ before) after s o =
    let ih = before-facts before after s o.1 in
    let own = o.0 s (Memᴰ.append_right before (Memᴰ.head refl)) in (
      (λ z t. o.0 z (Memᴰ.append_left (s ∷ after) t), ih.0),
      λ x t. ⊎_elim (λ e. (omega (arith, ap size e, own.0), λ g. own.1 (sym e ∙ g))) (λ u. ih.1 x u) (Memᴰ.cases_cons t),
    )

one-le : (b : Bool) → one b ≤ 1
one-le true = omega arith
one-le false = omega arith

-- The sets of r that are no larger than s, those that hold s, and the empty one: all are sets of r, and only s is counted twice.
-- At one set x: w, it is a set of r; p, it is not empty; l, it is no larger than s; b, it holds s; z, it is empty; e, it is s.
weigh : (w p l b z e : Bool) → (z ≡ true → (p ≡ false) × (w ≡ true) × (b ≡ false)) → (b ≡ true → e ≡ false → l ≡ false)
    → one ((w && p) && l) + one (b && w) + one z ≤ one w + one e
weigh w p l b true e h g = let v = h refl in rw (v.0, v.1, v.2) (omega arith)
weigh w p l true false true h g = omega (arith, one-le ((w && p) && l))
weigh true p l true false false h g = rw (g refl refl) (go p)
  where
    go : (p : Bool) → one (p && false) + 1 + 0 ≤ 1 + 0
    go true = omega arith
    go false = omega arith
weigh false p l true false false h g = omega arith
weigh true p l false false e h g = omega (arith, one-le (p && l))
weigh false p l false false e h g = omega arith

module _ (n r : ℕ) (rl : r < 2 ^ n) where
  -- A set of r that is not empty and no larger than s.
  abbrev small : ℕ → ℕ → Bool
  small s x = (within x r && ltb 0 x) && leb (size x) (size s)

  small_of : (s x : ℕ) → within x r ≡ true → 0 < x → size x ≤ size s → small s x ≡ true
  small_of s x w p l =
      (and-eq-true_iff (within x r && ltb 0 x) (leb (size x) (size s))).1
      ((and-eq-true_iff (within x r) (ltb 0 x)).1 (w, lt-ltb 0 x p), le-leb (size x) (size s) l)

  module _ (s : ℕ) (p : 0 < s) (h : within s r ≡ true) where
    sl : s < 2 ^ n
    sl = omega (arith, within-le s r h)

    point : (x : ℕ) → x < 2 ^ n → one (small s x) + one (between s r x) + one (eqb x 0) ≤ one (within x r) + one (eqb x s)
    point x l = weigh (within x r) (ltb 0 x) (leb (size x) (size s)) (within s x) (eqb x 0) (eqb x s)
        (λ z. let e = eqb-true x 0 z in (le-ltb 0 x (omega arith), ap (λ (y : ℕ). within y r) e ∙ none_within r, none e (within s x) refl))
        (λ w e. lt-leb (size x) (size s) (size_less n s x l w (eqb-false x s e)))
      where
        none : x ≡ 0 → (b : Bool) → within s x ≡ b → within s x ≡ false
        none e false w = w
        none e true w = absurd (omega (arith, within-le s x w))

    room : sum (λ x. one (small s x)) (2 ^ n) + 2 ^ size (rest r s) ≤ 2 ^ size r
    room =
        omega (
          arith,
          count-within n r rl,
          count-between n s r rl h,
          sum_one 0 (2 ^ n) (pow_pos n),
          sum_one s (2 ^ n) sl,
          sum_mono (λ x. one (small s x) + one (between s r x) + one (eqb x 0)) (λ x. one (within x r) + one (eqb x s)) (2 ^ n) point,
          sum-add (λ x. one (small s x) + one (between s r x)) (λ x. one (eqb x 0)) (2 ^ n),
          sum-add (λ x. one (small s x)) (λ x. one (between s r x)) (2 ^ n),
          sum-add (λ x. one (within x r)) (λ x. one (eqb x s)) (2 ^ n),
        )

module _ (n : ℕ) (sequence : List ℕ) (B : BySize n sequence) (r : ℕ) (rl : r < 2 ^ n) where
  subsets-rising : Pairwise (λ s t. (size s ≤ size t) × (s ≢ t)) (subsets r sequence)
  unfolding subsets
  subsets-rising = keep-pairwise _ (λ s. within s r) sequence B.rising

  subset-facts : (x : ℕ) → Memᴰ x (subsets r sequence) → (0 < x) × (x < 2 ^ n) × (within x r ≡ true)
  unfolding subsets
  subset-facts x t = let w = keep_out (λ s. within s r) sequence x t in let b = B.only x w.0 in (b.0, b.1, w.1)

  -- At a level where s is taken.
  taken-room : (s : ℕ) (before after : List ℕ) → subsets r sequence ≡ before ++ (s ∷ after) → suc (length before) + 2 ^ size (rest r s) ≤ 2 ^ size r
  taken-room s before after e =
      let o : Pairwise (λ s t. (size s ≤ size t) × (s ≢ t)) (before ++ (s ∷ after)) = rw e at subsets-rising in
      let facts : (x : ℕ) → Memᴰ x (before ++ (s ∷ after)) → (0 < x) × (x < 2 ^ n) × (within x r ≡ true) = λ x t. subset-facts x (rw e t) in
      let own = facts s (Memᴰ.append_right before (Memᴰ.head refl)) in
      let w = before-facts before after s o in
      omega (
        arith,
        room n r rl s own.0 own.2,
        sum-out (small n r rl s) s (2 ^ n) own.1 (small_of n r rl s s own.2 own.0 (le_refl (size s))),
        short before (2 ^ n) (λ x. small n r rl s x && not (eqb x s)) w.0 (λ x t.
            let f = facts x (Memᴰ.append_left (s ∷ after) t) in
            let v = w.1 x t in
            (f.1, (and-eq-true_iff (small n r rl s x) (not (eqb x s))).1 (small_of n r rl s x f.2 f.0 v.0, ap not (ne_eqb x s v.1)))),
      )

  -- At a level where nothing is taken.
  stuck-room : length (subsets r sequence) < 2 ^ size r
  stuck-room =
      omega (
        arith,
        count-within n r rl,
        sum-out (λ x. within x r) 0 (2 ^ n) (pow_pos n) (none_within r),
        short (subsets r sequence) (2 ^ n) (λ x. within x r && not (eqb x 0)) subsets-rising (λ x t.
            let f = subset-facts x t in
            (f.1, (and-eq-true_iff (within x r) (not (eqb x 0))).1 (f.2, ap not (ne_eqb x 0 (λ e. omega (arith, f.0)))))),
      )

-- ---- all levels

module _ (takeable : ℕ → ℕ → Bool) (sequence : List ℕ) where
  pub considered-none : (left : ℕ) → considered_count takeable sequence 0 left ≡ 0
  unfolding considered_count
  considered-none left = refl

  pub considered-stops : (levels left : ℕ) → first_taken (takeable left) (subsets left sequence) ≡ 0
      → considered_count takeable sequence (suc levels) left ≡ length (considered (takeable left) (subsets left sequence))
  unfolding considered_count
  considered-stops levels left e = rw (eq-eqb _ 0 e, considered_count) (omega arith)

  pub considered-goes : (levels left s : ℕ) → first_taken (takeable left) (subsets left sequence) ≡ s → 0 < s
      → considered_count takeable sequence (suc levels) left
      ≡ length (considered (takeable left) (subsets left sequence)) + considered_count takeable sequence levels (rest left s)
  unfolding considered_count
  considered-goes levels left s e p =
      rw (ne_eqb (first_taken (takeable left) (subsets left sequence)) 0 (λ z. omega arith), considered_count)
      (ap (λ (x : ℕ). length (considered (takeable left) (subsets left sequence)) + considered_count takeable sequence levels (rest left x)) e)

  -- The count never exceeds two to the power of the number of jobs, less 1.
  pub ceiling : (n : ℕ) → BySize n sequence → (levels left : ℕ) → left < 2 ^ n → considered_count takeable sequence levels left < 2 ^ size left
  ceiling n B zero left l = omega (arith, considered-none left, pow_pos (size left))
  ceiling n B (suc levels) left l = go (tried-or-took (takeable left) (subsets left sequence)) (ceiling n B levels)
    where
      go : Tried (takeable left) (subsets left sequence) ⊎ Took (takeable left) (subsets left sequence)
          → ((left : ℕ) → left < 2 ^ n → considered_count takeable sequence levels left < 2 ^ size left)
          → considered_count takeable sequence (suc levels) left < 2 ^ size left
      go (inl w) ih = omega (arith, considered-stops levels left w.first, ap length w.all, stuck-room n sequence B left l)
      go (inr w) ih =
          let own = subset-facts n sequence B left l w.set (rw w.split (Memᴰ.append_right w.before (Memᴰ.head refl))) in
          omega (
            arith,
            considered-goes levels left w.set w.first own.0,
            w.count,
            taken-room n sequence B left l w.set w.before w.after w.split,
            ih (rest left w.set) (rest_lt n left w.set l),
          )

-- The same from all of n jobs.
pub jobs-ceiling : (takeable : ℕ → ℕ → Bool) (sequence : List ℕ) → BySize places sequence → (n : ℕ) → n ≤ places
    → considered_count takeable sequence n (first_jobs n) ≤ 2 ^ n - 1
unfolding first_jobs
jobs-ceiling takeable sequence B n l =
    let e : min n places ≡ n = omega arith in
    let f : first_jobs n ≡ 2 ^ n - 1 = ap (λ (m : ℕ). 2 ^ m - 1) e in
    omega (
      arith,
      ceiling takeable sequence places B n (first_jobs n) (omega (arith, f, pow_mono l, pow_pos n)),
      ap (λ (x : ℕ). 2 ^ size x) f,
      ap (λ (x : ℕ). 2 ^ x) (size-full n),
    )
