-- Tables of which each entry is made of an entry of another table. Assumes nothing.
use Prim.Native.Nat.{ℕ, zero, suc, ◌+◌, ◌*◌, min, ◌<◌}
use mathlib.Core.Path.{◌≡◌, refl, sym, ap, ap₂, ◌∙◌}
use mathlib.Core.List.{List, [], ◌∷◌, ◌++◌, map}
use native.Mathlib.Numerals.{add-one}
use native.Mathlib.Omega.{arith}
use lib.ListN.{length, get_or, take, set, length-map, length-take}
use lib.Seq.{take-suc, length-take-le}
use Rattle.std.specs.Prelude.{Result, Ok, Err}
use Rattle.records.specs.Refusals.{Answer, refused, given, number, outcome, verdict, counted, verdict_of}
use Rattle.records.specs.Records.{table, written, room_tests, write_records}
use Rattle.records.specs.declared.refusal.Refusal.{Refusal}
use Rattle.records.proofs.FixedWidth.{fill-next, cut-take, take-table, take-cut, wrote-turned, wrote-given, wrote-done}

pub map_at : {A B : Type 0} (f : A → B) (xs : List A) (a : A) (b : B) (i : ℕ) → i < length xs → get_or (map f xs) i b ≡ f (get_or xs i a)
map_at f [] a b i l = absurd (omega arith)
map_at f (x ∷ xs) a b zero l = refl
map_at f (x ∷ xs) a b (suc i) l = map_at f xs a b i (omega arith)

-- There and back, if it is so for each entry.
pub map_back : {A B : Type 0} (f : A → B) (g : B → A) (xs : List A) (a : A) → ((i : ℕ) → i < length xs → g (f (get_or xs i a)) ≡ get_or xs i a) → map g (map f xs) ≡ xs
map_back f g [] a h = refl
map_back {A} f g (x ∷ xs) a h = ap₂ (λ (y : A) (ys : List A). y ∷ ys) (h 0 (omega arith)) (map_back f g xs a (λ i l. h (suc i) (omega arith)))

map-append : {A B : Type 0} (f : A → B) (xs ys : List A) → map f (xs ++ ys) ≡ map f xs ++ map f ys
map-append f [] ys = refl
map-append {A} {B} f (x ∷ xs) ys = ap (λ (l : List B). f x ∷ l) (map-append f xs ys)

-- A table of k entries that is made of the first entries of a list: one entry on.
pub table-on : {A B : Type 0} (from : A → B) (blank : B) (xs : List A) (k i : ℕ) (t : List B) (b : B) (z : A) → i < k → i < length xs → t ≡ table k blank (map from (take i xs))
    → b ≡ from (get_or xs i z) → set t i b ≡ table k blank (map from (take (i + 1) xs))
table-on {A} {B} from blank xs k i t b z h inside e f =
    let long : length (map from (take i xs)) ≡ i = length-map (take i xs) from ∙ length-take-le i xs (omega arith) in
    ap₂ (λ (l : List B) (x : B). set l i x) e f
    ∙ fill-next k i (map from (take i xs)) blank (from (get_or xs i z)) long h
    ∙ ap (table k blank) (sym (ap (λ (m : ℕ). map from (take m xs)) (add-one i) ∙ ap (map from) (take-suc xs i z inside) ∙ map-append from (take i xs) (get_or xs i z ∷ [])))

-- `k` is the size of both tables.
module _ {A B : Type 0} (from : A → B) (blank : B) (xs : List A) (k : ℕ) (size : length xs ≡ k) where
  -- One entry on.
  pub table-next : (i : ℕ) (t : List B) (b : B) (z : A) → i < k → t ≡ table k blank (map from (take i xs)) → b ≡ from (get_or xs i z)
      → set t i b ≡ table k blank (map from (take (i + 1) xs))
  table-next i t b z h e f = table-on from blank xs k i t b z h (omega arith) e f

  -- All of them, with a count that is cut to the size of the tables.
  pub table-all : (n count i : ℕ) → count ≡ min n k → i ≡ count → table k blank (map from (take i xs)) ≡ table k blank (map from (take n xs))
  table-all n count i cut e = ap (λ (l : List A). table k blank (map from l)) (ap (λ (m : ℕ). take m xs) e ∙ cut-take xs k n count size cut)

  -- The first n entries of the table that is made of n entries.
  pub table-listed : (n : ℕ) → take n (table k blank (map from (take n xs))) ≡ map from (take n xs)
  table-listed n = take-cut k blank n (map from (take n xs)) (length-map (take n xs) from ∙ length-take n xs ∙ ap (min n) size)

-- What a writer of the table that is made of a table's first n entries comes to, these being the list `ys` of n records.
module _ {A B : Type 0} (from : A → B) (blank : B) (k w : ℕ) (bytes : B → List ℕ) (n : ℕ) (xs ys : List A) (first : take n xs ≡ ys) (count : length ys ≡ n)
    (made : List B) (e : made ≡ table k blank (map from (take n xs)))
    (output : List ℕ) (wrote : Result ℕ Refusal) (after : List ℕ) (f : (counted wrote, after) ≡ write_records w bytes (take n made) output)
  where
    -- The outcome of such a writer where its count is not told.
    abbrev done : Answer (Unit {0}) × List ℕ
    done = outcome (room_tests (w * n) (length output)) tt (written w bytes (map from ys) output) output

    coming : outcome (room_tests (w * length (take n made)) (length output)) tt (written w bytes (take n made) output) output ≡ done
    coming =
        let long : length (map from ys) ≡ n = length-map ys from ∙ count in
        let listed : take n made ≡ map from ys =
        ap (take n) (e ∙ ap (λ (l : List A). table k blank (map from l)) first) ∙ take-table k blank n (map from ys) long in
        ap (λ (l : List B). outcome (room_tests (w * length l) (length output)) tt (written w bytes l output) output) listed
        ∙ ap (λ (m : ℕ). outcome (room_tests (w * m) (length output)) tt (written w bytes (map from ys) output) output) long

    pub made-turned : (refusal : Refusal) → wrote ≡ Err refusal → (refused (number refusal), after) ≡ done
    made-turned refusal g = wrote-turned w bytes (take n made) output wrote after f refusal g ∙ coming

    pub made-given : (m : ℕ) → wrote ≡ Ok m → (given tt, after) ≡ done
    made-given m g = wrote-given w bytes (take n made) output wrote after f m g ∙ coming

    pub made-written : (v : Result (Unit {0}) Refusal) → v ≡ verdict_of wrote → (verdict v, after) ≡ done
    made-written v g = wrote-done w bytes (take n made) output wrote after f v g ∙ coming
