-- What is left when no set can be taken, for any rule on quanta and any test of a job that hold on when jobs are dropped: the same jobs
-- however sets were chosen, and no configuration serves them all. Assumes nothing.
use Prim.Native.Nat.{ℕ, zero, suc, ◌≤◌, ◌<◌}
use mathlib.Core.Path.{◌≡◌, refl, sym, ap, ◌∙◌}
use mathlib.Core.Bool.{Bool, true, false, not, ◌&&◌, and-eq-true_iff, false≢true}
use mathlib.Core.Logic.{◌≢◌, ◌⊎◌, inl, inr}
use native.Mathlib.Nat.{le_refl}
use native.Mathlib.Decide.{dec_le, ℕ_discrete}
use native.Mathlib.Omega.{arith}
use lib.Dec.{eqb, ltb}
use borrow.Author.Tests.{eqb-true, eqb-false, not-true, eq-eqb, lt-ltb}
use Rattle.sets.specs.Sets.{Set, Sub, both, but}
use Rattle.assignment.specs.Takeable.{Takeable}

-- The jobs of a level, and those above it.
abbrev layer_at : (ℕ → ℕ) → ℕ → Set
layer_at level v i = eqb (level i) v

abbrev above_at : (ℕ → ℕ) → ℕ → Set
above_at level v i = ltb (level i) v

-- A play takes set after set, in whatever order.
pub data Play (n : ℕ) (Take : Set → Set → Type 0) : Set → Set → Type 0 where
  done : {r : Set} → Play n Take r r
  next : {r r' l : Set} (s : Set) → Take r s → ((i : ℕ) → i < n → r' i ≡ but r s i) → Play n Take r' l → Play n Take r l

-- Nothing can be taken from l.
abbrev pub Stuck : (Set → Set → Type 0) → Set → Type 0
Stuck Take l = (s : Set) → Take l s → ⊥

rest-left : (a b c : Bool) → (b ≡ true → c ≡ true) → (b && not (a && b)) ≡ true → (c && not a) ≡ true
rest-left a false c h e = absurd (false≢true e)
rest-left true true c h e = absurd (false≢true e)
rest-left false true c h e = (and-eq-true_iff c true).1 (h refl, refl)

rest-same : (a b c : Bool) → (a ≡ true → b ≡ true) → (c && not b) ≡ true → (c && not a) ≡ true
rest-same false b c h e = (and-eq-true_iff c true).1 (((and-eq-true_iff c (not b)).0 e).0, refl)
rest-same true b c h e = absurd (false≢true (sym (ap not (h refl)) ∙ ((and-eq-true_iff c (not b)).0 e).1))

-- Of the places below n that pass a test, one at which f is greatest.
abbrev Greatest : Set → (ℕ → ℕ) → ℕ → Type 0
Greatest test f n = (m : ℕ) × (m < n) × (test m ≡ true) × ((i : ℕ) → i < n → test i ≡ true → f i ≤ f m)

abbrev None : Set → ℕ → Type 0
None test n = (i : ℕ) → i < n → test i ≡ true → ⊥

greatest : (test : Set) (f : ℕ → ℕ) (n : ℕ) → None test n ⊎ Greatest test f n
greatest test f zero = inl (λ i l e. absurd (omega arith))
greatest test f (suc n) = go (test n) refl (greatest test f n)
  where
    go : (b : Bool) → test n ≡ b → None test n ⊎ Greatest test f n → None test (suc n) ⊎ Greatest test f (suc n)
    go false e (inl h) = inl (λ i l g. elim (ℕ_discrete i n) [ yes x ↦ false≢true (sym e ∙ ap test (sym x) ∙ g) | no x ↦ h i (omega arith) g ])
    go false e (inr w) = inr (w.0, omega arith, w.2, λ i l g. elim (ℕ_discrete i n) [ yes x ↦ absurd (false≢true (sym e ∙ ap test (sym x) ∙ g)) | no x ↦ w.3 i (omega arith) g ])
    go true e (inl h) = inr (n, omega arith, e, λ i l g. elim (ℕ_discrete i n) [ yes x ↦ rw x (le_refl (f n)) | no x ↦ absurd (h i (omega arith) g) ])
    go true e (inr w) = elim (dec_le (f n) (f w.0)) [
      | yes y ↦ inr (w.0, omega arith, w.2, λ i l g. elim (ℕ_discrete i n) [ yes x ↦ rw x y | no x ↦ w.3 i (omega arith) g ])
      | no y ↦ inr (n, omega arith, e, λ i l g. elim (ℕ_discrete i n) [ yes x ↦ rw x (le_refl (f n)) | no x ↦ omega (arith, w.3 i (omega arith) g) ])
    ]

module _
    (n : ℕ) (Quanta : Type 0) (Permit : Quanta → Set → Type 0) (Served : Quanta → Set → Set → ℕ → Type 0)
    (permit-drop : (q : Quanta) (s s' : Set) → Sub n s' s → Permit q s → Permit q s')
    (served-drop : (q : Quanta) (s s' a a' : Set) (k : ℕ) → k < n → Sub n s' s → Sub n a' a → Served q s a k → Served q s' a' k)
  where
    abbrev Take : Set → Set → Type 0
    Take = Takeable n Quanta Permit Served

    -- What can be taken can be taken of fewer jobs.
    take-drop : (r l s : Set) → Sub n l r → Take r s → (k : ℕ) → k < n → both s l k ≡ true → Take l (both s l)
    take-drop r l s h t k kn e = record {
      some = (k, kn, e);
      sub = λ i il x. ((and-eq-true_iff (s i) (l i)).0 x).1;
      quanta = t.quanta;
      permit = permit-drop t.quanta s (both s l) sl t.permit;
      served = λ j jn x. served-drop t.quanta s (both s l) (but r s) (but l (both s l)) j jn sl
          (λ i il y. rest-left (s i) (l i) (r i) (h i il) y) (t.served j jn (sl j jn x));
    }
      where
        sl : Sub n (both s l) s
        sl i il x = ((and-eq-true_iff (s i) (l i)).0 x).0

    -- The same jobs of the same jobs.
    pub take_same : (r r' s s' : Set) → Sub n r r' → Sub n r' r → Sub n s s' → Sub n s' s → Take r s → Take r' s'
    take_same r r' s s' f g h k t = record {
      some = (t.some.0, t.some.1, h t.some.0 t.some.1 t.some.2);
      sub = λ i l x. f i l (t.sub i l (k i l x));
      quanta = t.quanta;
      permit = permit-drop t.quanta s s' k t.permit;
      served = λ j l x. served-drop t.quanta s s' (but r s) (but r' s') j l k
          (λ i il y. let w = (and-eq-true_iff (r' i) (not (s' i))).0 y in
          rest-same (s i) (s' i) (r i) (h i il) ((and-eq-true_iff (r i) (not (s' i))).1 (g i il w.0, w.1))) (t.served j l (k j l x));
    }

    -- Jobs of which nothing can be taken are in no set that is taken with others around them.
    untouched : (l r s : Set) → Stuck Take l → Sub n l r → Take r s → Sub n l (but r s)
    untouched l r s st h t i il x = go (s i) refl
      where
        go : (b : Bool) → s i ≡ b → but r s i ≡ true
        go true e = absurd (st (both s l) (take-drop r l s h t i il ((and-eq-true_iff (s i) (l i)).1 (e, x))))
        go false e = (and-eq-true_iff (r i) (not (s i))).1 (h i il x, ap not e)

    stays : (l r e : Set) → Stuck Take l → Sub n l r → Play n Take r e → Sub n l e
    stays l r e st h done = h
    stays l r e st h (next {r' = r'} s t c p) = stays l r' e st (λ i il x. c i il ∙ untouched l r s st h t i il x) p

    shrinks : (r e : Set) → Play n Take r e → Sub n e r
    shrinks r e done = λ i l x. x
    shrinks r e (next {r' = r'} s t c p) = λ i l x. ((and-eq-true_iff (r i) (not (s i))).0 (sym (c i l) ∙ shrinks r' e p i l x)).0

    -- However one plays, the same jobs remain at the end.
    pub same_end : (r e e' : Set) → Stuck Take e → Play n Take r e → Play n Take r e' → Sub n e e'
    same_end r e e' st p p' = stays e r e' st (shrinks r e p) p'

    -- A configuration in which each job of l is served: then l is empty.
    pub none_left : (l : Set) → Stuck Take l → (q : Quanta) (level : ℕ → ℕ)
        → ((v : ℕ) → 0 < v → Permit q (layer_at level v))
        → ((k : ℕ) → k < n → l k ≡ true → (0 < level k) × Served q (layer_at level (level k)) (above_at level (level k)) k)
        → None l n
    none_left l st q level permitted served k kn kl = go (greatest l level n)
      where
        go : None l n ⊎ Greatest l level n → ⊥
        go (inl h) = h k kn kl
        go (inr w) =
            let v = level w.0 in
            let s : Set = both (layer_at level v) l in
            let sl : Sub n s (layer_at level v) = λ i il x. ((and-eq-true_iff (eqb (level i) v) (l i)).0 x).0 in
            st s (record {
              some = (w.0, w.1, (and-eq-true_iff (eqb v v) (l w.0)).1 (eq-eqb v v refl, w.2));
              sub = λ i il x. ((and-eq-true_iff (eqb (level i) v) (l i)).0 x).1;
              quanta = q;
              permit = permit-drop q (layer_at level v) s sl (permitted v (served w.0 w.1 w.2).0);
              served = λ j jn x.
                  let e : level j ≡ v = eqb-true (level j) v (sl j jn x) in
                  let lj = ((and-eq-true_iff (eqb (level j) v) (l j)).0 x).1 in
                  served-drop q (layer_at level v) s (above_at level v) (but l s) j jn sl
                  (λ i il y.
                  let z = (and-eq-true_iff (l i) (not (eqb (level i) v))).0 (rest-left (eqb (level i) v) (l i) (l i) (λ b. b) y) in
                  let ne : level i ≢ v = eqb-false (level i) v (not-true (eqb (level i) v) z.1) in
                  lt-ltb (level i) v (omega (arith, w.3 i il z.0))) (rw e at (served j jn lj).1);
            })
