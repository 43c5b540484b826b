-- Laws of text written to a buffer, part after part. Assumes nothing.
use Prim.Native.Nat.{ℕ, zero, suc, ◌+◌, ◌*◌, ◌≤◌, ◌<◌}
use mathlib.Core.Path.{◌≡◌, refl, sym, ap, ap₂, subst, ◌∙◌}
use mathlib.Core.Bool.{Bool, true, false, cond}
use mathlib.Core.List.{List, [], ◌∷◌, ◌++◌}
use native.Mathlib.Nat.{add-zero, add-suc, suc-add, add_assoc, zero-add, mul-suc, mul-le-mul_left}
use native.Mathlib.Numerals.{add-one}
use native.Mathlib.Omega.{arith}
use lib.Dec.{eqb}
use lib.ListN.{length, get_or, take, set, length-append}
use lib.Seq.{sets, length-sets, take-suc}
use Rattle.records.specs.Records.{flat}
use Rattle.records.proofs.FixedWidth.{flat-snoc}
use Rattle.writing.specs.Templates.{rows_to, piece, used_after, filled_from, filled, Wrote, Templated}

sets-append : {A : Type 0} (l : List A) (i : ℕ) (xs ys : List A) → sets l i (xs ++ ys) ≡ sets (sets l i xs) (i + length xs) ys
sets-append l i [] ys = ap (λ (k : ℕ). sets l k ys) (sym (add-zero i))
sets-append l i (x ∷ xs) ys =
    sets-append (set l i x) (suc i) xs ys ∙ ap (λ (k : ℕ). sets (sets (set l i x) (suc i) xs) k ys) (suc-add i (length xs) ∙ sym (add-suc i (length xs)))

-- Two parts, one after the other.
pub then : {k m : ℕ} {old mid new : List ℕ} {at p r : ℕ} {xs ys : List ℕ} → Wrote k old mid at p xs → Wrote m mid new p r ys → Wrote (k + m) old new at r (xs ++ ys)
then {k} {m} {old} {mid} {new} {at} {p} {r} {xs} {ys} v w = record {
  next = w.next ∙ ap (λ (j : ℕ). j + length ys) v.next ∙ add_assoc at (length xs) (length ys) ∙ ap (λ (j : ℕ). at + j) (sym (length-append xs ys));
  short = omega (arith, length-append xs ys, v.short, w.short);
  bytes = w.bytes ∙ ap (λ (l : List ℕ). sets l p ys) v.bytes ∙ ap (λ (j : ℕ). sets (sets old at xs) j ys) v.next ∙ sym (sets-append old at xs ys);
}

pub same_length : {k : ℕ} {old new : List ℕ} {at r : ℕ} {xs : List ℕ} → Wrote k old new at r xs → length new ≡ length old
same_length {k} {old} {new} {at} {r} {xs} w = ap length w.bytes ∙ length-sets old at xs

-- Nothing yet.
pub nothing : (old : List ℕ) (at : ℕ) → Wrote 0 old old at at []
nothing old at = record { next = sym (add-zero at); short = omega arith; bytes = refl }

-- The same text in other words, and with another limit.
pub retold : {k : ℕ} {old new : List ℕ} {at r : ℕ} {xs ys : List ℕ} → Wrote k old new at r xs → xs ≡ ys → Wrote k old new at r ys
retold {k} {old} {new} {at} {r} w e = subst (λ (l : List ℕ). Wrote k old new at r l) e w

pub limited : {k : ℕ} (m : ℕ) {old new : List ℕ} {at r : ℕ} {xs : List ℕ} → Wrote k old new at r xs → length xs ≤ m → Wrote m old new at r xs
limited m w h = record { next = w.next; short = h; bytes = w.bytes }

pub limited-to : {k m : ℕ} {old new : List ℕ} {at r : ℕ} {xs : List ℕ} → k ≡ m → Wrote k old new at r xs → Wrote m old new at r xs
limited-to {k} {m} e w = limited m w (omega (arith, w.short))

pub widened : {k : ℕ} (m : ℕ) {old new : List ℕ} {at r : ℕ} {xs : List ℕ} → Wrote k old new at r xs → k ≤ m → Wrote m old new at r xs
widened m w h = limited m w (omega (arith, w.short))

-- The same template in other words.
pub from-template : {template other numbers old new : List ℕ} {at r : ℕ} → Templated template numbers old new at r → template ≡ other → Templated other numbers old new at r
from-template {template} {other} {numbers} {old} {new} {at} {r} w e = subst (λ (t : List ℕ). Templated t numbers old new at r) e w

-- One row more, and one record more of a table.
pub rows_same : (row row' : ℕ → List ℕ) (n : ℕ) → ((k : ℕ) → k < n → row k ≡ row' k) → rows_to row n ≡ rows_to row' n
rows_same row row' zero h = refl
rows_same row row' (suc n) h = ap₂ ◌++◌ (rows_same row row' n (λ k l. h k (omega arith))) (h n (omega arith))

pub rows_next : (row : ℕ → List ℕ) (i : ℕ) → rows_to row i ++ row i ≡ rows_to row (i + 1)
rows_next row i = rw (add-one i) refl

pub flat-next : {A : Type 0} (bytes : A → List ℕ) (records : List A) (i : ℕ) (blank : A) → i < length records → flat bytes (take i records) ++ bytes (get_or records i blank) ≡ flat bytes (take (i + 1) records)
flat-next bytes records i blank h = rw (add-one i, take-suc records i blank h) (sym (flat-snoc bytes (take i records) (get_or records i blank)))

-- Parts of at most `room` bytes each, one after the other: nothing yet, where there is room for all there is room for the next, one part more, and all.
pub no-part : (room : ℕ) (old : List ℕ) (at : ℕ) → Wrote (room * 0) old old at at []
no-part room old at = widened (room * 0) (nothing old at) (omega arith)

pub next-fits : (room i : ℕ) {n : ℕ} {old mid : List ℕ} {from at : ℕ} {xs : List ℕ} → Wrote (room * i) old mid from at xs → i < n → from + room * n ≤ length old → at + room ≤ length mid
next-fits room i {n} {old} {mid} {from} {at} {xs} w l h =
    let most : room * suc i ≤ room * n = mul-le-mul_left room (omega arith) in
    omega (arith, w.next, w.short, same_length w, h, most, mul-suc room i)

pub one-more : (room i : ℕ) {old mid new : List ℕ} {from at r : ℕ} {xs ys : List ℕ} → Wrote (room * i) old mid from at xs → Wrote room mid new at r ys → Wrote (room * (i + 1)) old new from r (xs ++ ys)
one-more room i v w = limited-to (sym (ap (λ (j : ℕ). room * j) (add-one i) ∙ mul-suc room i)) (then v w)

-- Rows of at most `room` bytes each: one row more, by its place or by what a loop has gone through, and all of them.
pub row-next : (room : ℕ) (row : ℕ → List ℕ) (i : ℕ) {old mid new : List ℕ} {from at r : ℕ} → Wrote (room * i) old mid from at (rows_to row i) → Wrote room mid new at r (row i) → Wrote (room * (i + 1)) old new from r (rows_to row (i + 1))
row-next room row i v w = retold (one-more room i v w) (rows_next row i)

pub row-more : {X : Type 0} (room : ℕ) (row : ℕ → List ℕ) (seen : List X) (x : X) {old mid new : List ℕ} {from at r : ℕ} {ys : List ℕ} → Wrote (room * length seen) old mid from at (rows_to row (length seen)) → Wrote room mid new at r ys → ys ≡ row (length seen)
    → Wrote (room * length (seen ++ (x ∷ []))) old new from r (rows_to row (length (seen ++ (x ∷ []))))
row-more room row seen x {old} {mid} {new} {from} {at} {r} v w e =
    subst (λ (k : ℕ). Wrote (room * k) old new from r (rows_to row k)) (sym (length-append seen (x ∷ []))) (row-next room row (length seen) v (retold w e))

pub rows-all : (room m : ℕ) (row : ℕ → List ℕ) {k : ℕ} (n : ℕ) {old new : List ℕ} {from r : ℕ} → k ≡ n → Wrote (room * k) old new from r (rows_to row k) → room * n ≤ m → Wrote m old new from r (rows_to row n)
rows-all room m row {k} n {old} {new} {from} {r} e w h = widened m (subst (λ (j : ℕ). Wrote (room * j) old new from r (rows_to row j)) e w) h

-- Text from the start of a buffer on.
pub whole : {k : ℕ} {old new : List ℕ} {r : ℕ} {xs : List ℕ} → Wrote k old new 0 r xs → k ≤ length old → (r ≤ length new) × (r ≡ length xs) × (new ≡ sets old 0 xs)
whole {k} {old} {new} {r} {xs} w h = (omega (arith, w.next, w.short, h, same_length w), w.next ∙ zero-add (length xs), w.bytes)

-- A byte of a template uses at most one number more.
pub used-small : (byte used : ℕ) → used_after byte used ≤ used + 1
used-small byte used = by (eqb byte 37)
  where
    by : (b : Bool) → cond b (used + 1) used ≤ used + 1
    by true = omega arith
    by false = omega arith

-- Numbers that are the same at each place fill a template alike.
pub filled-same : (template a b : List ℕ) → ((i : ℕ) → get_or a i 0 ≡ get_or b i 0) → filled template a ≡ filled template b
unfolding filled
filled-same template a b same = from template [] 0
  where
    from : (rest done : List ℕ) (used : ℕ) → filled_from a done rest used ≡ filled_from b done rest used
    from [] done used = refl
    from (byte ∷ rest) done used =
        ap (λ (n : ℕ). filled_from a (done ++ piece byte n) rest (used_after byte used)) (same used) ∙ from rest (done ++ piece byte (get_or b used 0)) (used_after byte used)
