-- Laws of records of one fixed width: reading and writing them one after the other, and the two round trips from the round trip
-- of one record. They hold for every kind of record and every width. Assumes nothing.
use Prim.Native.Nat.{ℕ, zero, suc, ◌+◌, ◌-◌, ◌*◌, ◌/◌, ◌%◌, min, ◌≤◌, ◌<◌}
use mathlib.Core.Path.{◌≡◌, refl, sym, ap, ap₂, ◌∙◌}
use mathlib.Core.List.{List, [], ◌∷◌, ◌++◌, map, append_assoc, append-nil}
use Rattle.std.specs.Simd.{first_chunks}
use native.Mathlib.Numerals.{add-one}
use Rattle.std.proofs.Math.Nat.{mul-le-mul_left}
use native.Mathlib.Nat.{mul-suc, mul-zero, add_comm}
use native.Mathlib.Decide.{dec_le}
use native.Mathlib.Omega.{arith}
use borrow.Rule.Slice.PartMut.{put_mid}
use lib.ListN.{length, get_or, take, drop, set, replicate, length-append, length-take, length-drop, drop_of_length-le, get_or-eq_default, length-replicate}
use lib.Seq.{ext_get_or, drop-cons, drop-drop, set_at, append_snoc, take_all, take_at, drop_at, take-suc, take-add, length-take-le}
use borrow.Author.Tests.{lt-leb, le-leb, leb-true}
use Rattle.sets.specs.Places.{list_of}
use Rattle.sets.proofs.Places.{list-suc, list_length, list_at}
use Rattle.std.specs.Prelude.{Result, Ok, Err}
use Rattle.records.specs.Refusals.{Answer, refused, given, number, Tests, outcome, verdict, counted, verdict_of}
use Rattle.records.specs.declared.refusal.Refusal.{Refusal}
use Rattle.records.specs.Records.{word, word_of, word_bytes, long_bytes, flat, chunks, table, written, room_tests, write_records}
use Rattle.records.proofs.Outcomes.{gives, other-turned, other-given}

-- ---- lists of records

-- The bytes of one record more.
pub flat-snoc : {A : Type 0} (bytes : A → List ℕ) (xs : List A) (a : A) → flat bytes (xs ++ (a ∷ [])) ≡ flat bytes xs ++ bytes a
unfolding flat
flat-snoc bytes [] a = append-nil (bytes a)
flat-snoc bytes (x ∷ xs) a = ap (λ (l : List ℕ). bytes x ++ l) (flat-snoc bytes xs a) ∙ sym (append_assoc (bytes x) (flat bytes xs) (bytes a))

pub length-flat : {A : Type 0} (bytes : A → List ℕ) (w : ℕ) → ((a : A) → length (bytes a) ≡ w) → (xs : List A) → length (flat bytes xs) ≡ w * length xs
unfolding flat
length-flat bytes w h [] = sym (mul-zero w)
length-flat bytes w h (x ∷ xs) =
    let e : w * suc (length xs) ≡ w * length xs + w = mul-suc w (length xs) in
    length-append (bytes x) (flat bytes xs) ∙ omega (arith, length-flat bytes w h xs, h x)

pub length-chunks : {A : Type 0} (w : ℕ) (read : List ℕ → A) (n : ℕ) (s : List ℕ) → length (chunks w read n s) ≡ n
unfolding chunks
length-chunks w read zero s = refl
length-chunks w read (suc n) s = ap suc (length-chunks w read n (drop w s))

-- The records of the parts of w bytes that a block begins with.
pub chunks-parts : {A : Type 0} (w : ℕ) (read : List ℕ → A) → ((s : List ℕ) → w ≤ length s → read (take w s) ≡ read s) → (i k : ℕ) (s : List ℕ) → i ≤ k → w * k ≤ length s
    → map read (take i (first_chunks w k s)) ≡ chunks w read i s
unfolding chunks
chunks-parts w read own zero k s l h = refl
chunks-parts w read own (suc i) zero s l h = absurd (omega arith)
chunks-parts {A} w read own (suc i) (suc k) s l h =
    let more : w * suc k ≡ w * k + w = mul-suc w k in
    ap₂ (λ (x : A) (xs : List A). x ∷ xs) (own s (omega (arith, more))) (chunks-parts w read own i k (drop w s) (omega arith) (simp length-drop (omega (arith, more))))

chunks-snoc : {A : Type 0} (w : ℕ) (read : List ℕ → A) (n : ℕ) (s : List ℕ) → chunks w read (n + 1) s ≡ chunks w read n s ++ (read (drop (w * n) s) ∷ [])
unfolding chunks
chunks-snoc w read zero s = rw mul-zero
chunks-snoc {A} w read (suc n) s =
    let e : w + w * n ≡ w * suc n = add_comm w (w * n) ∙ sym (mul-suc w n) in
    let i = chunks-snoc w read n (drop w s) in
    simp (add-one, drop-drop) (ap (λ (l : List A). read s ∷ l) (simp (add-one, drop-drop, e) at i))

-- ---- tables

-- The entries past the list are the blank that stands for no entry.
pub table_at : {A : Type 0} (z : A) (xs : List A) (k i : ℕ) → get_or (xs ++ replicate k z) i z ≡ get_or xs i z
table_at z [] zero i = refl
table_at z [] (suc k) zero = refl
table_at z [] (suc k) (suc i) = table_at z [] k i
table_at z (x ∷ xs) k zero = refl
table_at z (x ∷ xs) k (suc i) = table_at z xs k i

-- Filled from the front: one entry more.
pub fill-next : {A : Type 0} (k i : ℕ) (xs : List A) (z a : A) → length xs ≡ i → i < k → set (table k z xs) i a ≡ table k z (xs ++ (a ∷ []))
fill-next k i xs z a l h =
    let e : k - length xs ≡ suc (k - length (xs ++ (a ∷ []))) = simp length-append (omega arith) in
    rw e (set_at xs z _ a i l ∙ sym (append_snoc xs a _))

-- Filled with the values of f, place by place.
pub list-next : {A : Type 0} (f : ℕ → A) (k i : ℕ) (z : A) (t : List A) (a : A) → i < k → t ≡ table k z (list_of f i) → a ≡ f i → set t i a ≡ table k z (list_of f (i + 1))
list-next f k i z t a h e g = rw (e, g, add-one i, list-suc f i) (fill-next k i (list_of f i) z (f i) (list_length f i) h)

pub table-full : {A : Type 0} (k : ℕ) (z : A) (xs : List A) → length xs ≡ k → table k z xs ≡ xs
table-full k z xs e = let none : k - length xs ≡ 0 = omega arith in rw none (append-nil xs)

-- Blank entries make a blank table.
pub table-blank : {A : Type 0} (k n : ℕ) (z : A) → n ≤ k → table k z (list_of (λ i. z) n) ≡ replicate k z
table-blank {A} k n z h =
    let xs : List A = list_of (λ (i : ℕ). z) n in
    let long : length xs ≡ n = list_length (λ (i : ℕ). z) n in
    ext_get_or z (table k z xs) (replicate k z)
    (length-append xs (replicate (k - length xs) z) ∙ omega (arith, length-replicate (k - length xs) z, length-replicate k z))
    (λ i l. table_at z xs (k - length xs) i ∙ blank i ∙ sym (blanks k i))
  where
    blanks : (m i : ℕ) → get_or (replicate m z) i z ≡ z
    blanks zero i = refl
    blanks (suc m) zero = refl
    blanks (suc m) (suc i) = blanks m i

    blank : (i : ℕ) → get_or (list_of (λ (j : ℕ). z) n) i z ≡ z
    blank i = elim (dec_le (suc i) n) [
      | yes l ↦ list_at (λ (j : ℕ). z) n i z l
      | no l ↦ let short : length (list_of (λ (j : ℕ). z) n) ≤ i = omega (arith, list_length (λ (j : ℕ). z) n) in get_or-eq_default (list_of (λ (j : ℕ). z) n) z short
    ]

-- A count that is cut to the size of a table takes the same entries.
module _ {A : Type 0} (xs : List A) (k n count : ℕ) (size : length xs ≡ k) (cut : count ≡ min n k) where
  pub cut-take : take count xs ≡ take n xs
  cut-take = elim (dec_le n k) [
    | yes l ↦ let same : count ≡ n = omega arith in ap (λ (m : ℕ). take m xs) same
    | no l ↦ take_all count xs (omega arith) ∙ sym (take_all n xs (omega arith))
  ]

  pub cut-length : length (take n xs) ≡ count
  cut-length = length-take n xs ∙ omega arith

pub take-table : {A : Type 0} (k : ℕ) (z : A) (n : ℕ) (xs : List A) → length xs ≡ n → take n (table k z xs) ≡ xs
take-table k z n xs e = take_at xs _ n e

-- The same with a count that is cut to the size of the table.
pub take-cut : {A : Type 0} (k : ℕ) (z : A) (n : ℕ) (xs : List A) → length xs ≡ min n k → take n (table k z xs) ≡ xs
take-cut k z n xs e = elim (dec_le n k) [
  | yes l ↦ take-table k z n xs (omega arith)
  | no l ↦
      let whole : length xs ≡ k = omega arith in
      ap (take n) (table-full k z xs whole) ∙ take_all n xs (omega arith)
]

-- ---- loops over records

-- The whole of a list from a place on, as a part `&s[a..]` has it.
rest_of : (a : ℕ) (s : List ℕ) → take (length s - a) (drop a s) ≡ drop a s
rest_of a s = take_all (length s - a) (drop a s) (simp length-drop (omega arith))

-- Reading into a table: one record on.
pub read_next : {A : Type 0} (w : ℕ) (read : List ℕ → A) (k : ℕ) (z : A) (i : ℕ) (s : List ℕ) (t : List A) (a : A) → i < k → t ≡ table k z (chunks w read i s)
    → a ≡ read (take (length s - w * i) (drop (w * i) s)) → set t i a ≡ table k z (chunks w read (i + 1) s)
read_next w read k z i s t a h e f =
    rw (e, f, rest_of (w * i) s, chunks-snoc w read i s) (fill-next k i (chunks w read i s) z (read (drop (w * i) s)) (length-chunks w read i s) h)

-- Writing v after p, through the part `&mut output[a..]`: what the whole list then is.
pub put-after : (p v d : List ℕ) (a w : ℕ) → length p ≡ a → (out : List ℕ) → out ≡ p ++ drop a d → (ys : List ℕ)
    → ys ≡ v ++ drop w (take (length out - a) (drop a out)) → take a out ++ (ys ++ drop (length out - a) (drop a out)) ≡ (p ++ v) ++ drop (a + w) d
put-after p v d a w lp out e ys f =
    let da : drop a out ≡ drop a d = rw e (drop_at p (drop a d) a lp) in
    let ta : take a out ≡ p = rw e (take_at p (drop a d) a lp) in
    let none : drop (length out - a) (drop a out) ≡ [] = drop_of_length-le (drop a out) {i = length out - a} (simp length-drop (omega arith)) in
    rw (f, none, rest_of a out, append-nil, ta, da, drop-drop w a d, append_assoc)

-- Writing from a table: one record on.
pub write-next : {A : Type 0} (bytes : A → List ℕ) (w : ℕ) → ((a : A) → length (bytes a) ≡ w) → (i : ℕ) (t : List A) (z : A) (d out ys : List ℕ) → i < length t
    → out ≡ flat bytes (take i t) ++ drop (w * i) d
    → ys ≡ bytes (get_or t i z) ++ drop w (take (length out - w * i) (drop (w * i) out))
    → take (w * i) out ++ (ys ++ drop (length out - w * i) (drop (w * i) out)) ≡ flat bytes (take (i + 1) t) ++ drop (w * (i + 1)) d
write-next bytes w h i t z d out ys k e g =
    let n : length (take i t) ≡ i = length-take-le i t (omega arith) in
    let lp : length (flat bytes (take i t)) ≡ w * i = length-flat bytes w h (take i t) ∙ ap (λ (m : ℕ). w * m) n in
    rw (add-one i, take-suc t i z k, flat-snoc bytes (take i t) (get_or t i z), mul-suc w i)
    (put-after (flat bytes (take i t)) (bytes (get_or t i z)) d (w * i) w lp out e ys g)

-- The same through the part of w bytes that the record stands in.
pub write-on : {A : Type 0} (bytes : A → List ℕ) (w : ℕ) → ((a : A) → length (bytes a) ≡ w) → (i : ℕ) (t : List A) (z : A) (d out : List ℕ) (k : ℕ) → i < length t
    → out ≡ flat bytes (take i t) ++ drop (w * i) d → k ≡ w → put_mid (w * i) k out (bytes (get_or t i z)) ≡ flat bytes (take (i + 1) t) ++ drop (w * (i + 1)) d
write-on bytes w h i t z d out k l e same =
    let n : length (take i t) ≡ i = length-take-le i t (omega arith) in
    let lp : length (flat bytes (take i t)) ≡ w * i = length-flat bytes w h (take i t) ∙ ap (λ (m : ℕ). w * m) n in
    let p = flat bytes (take i t) in
    let v = bytes (get_or t i z) in
    let da : drop (w * i) out ≡ drop (w * i) d = rw e (drop_at p (drop (w * i) d) (w * i) lp) in
    let ta : take (w * i) out ≡ p = rw e (take_at p (drop (w * i) d) (w * i) lp) in
    rw (add-one i, take-suc t i z l, flat-snoc bytes (take i t) (get_or t i z), mul-suc w i)
    (ap (λ (m : ℕ). put_mid (w * i) m out v) same
    ∙ ap₂ (λ (x y : List ℕ). x ++ (v ++ drop w y)) ta da
    ∙ ap (λ (x : List ℕ). p ++ (v ++ x)) (drop-drop w (w * i) d)
    ∙ sym (append_assoc p v (drop (w * i + w) d)))

-- All records are written.
pub written_at : {A : Type 0} (w : ℕ) (bytes : A → List ℕ) (xs : List A) (n : ℕ) (output : List ℕ) → length xs ≡ n → flat bytes xs ++ drop (w * n) output ≡ written w bytes xs output
written_at w bytes xs n output e = ap (λ (m : ℕ). flat bytes xs ++ drop (w * m) output) (sym e)

-- What a writer of a table's first n entries comes to, without room for them and with it.
module _ {A : Type 0} (w : ℕ) (bytes : A → List ℕ) (xs : List A) (k n count : ℕ) (size : length xs ≡ k) (cut : count ≡ min n k) (output : List ℕ) where
  need : w * length (take n xs) ≡ w * count
  need = ap (λ (m : ℕ). w * m) (cut-length xs k n count size cut)

  pub no_room : length output < w * count → (refused 12, output) ≡ write_records w bytes (take n xs) output
  unfolding write_records
  no_room h = simp (lt-leb (w * length (take n xs)) (length output) (omega (arith, need)))

  pub room : w * count ≤ length output → (after : List ℕ) → after ≡ written w bytes (take count xs) output → (given (w * count), after) ≡ write_records w bytes (take n xs) output
  unfolding write_records
  room h after e =
      ap₂ (λ (m : ℕ) (l : List ℕ). (given m, l)) (sym need) (e ∙ ap (λ (l : List A). written w bytes l output) (cut-take xs k n count size cut))
      ∙ simp (le-leb (w * length (take n xs)) (length output) (omega (arith, need)))

-- The same of all records, by how many of them the output has room for.
module _ {A : Type 0} (w : ℕ) (bytes : A → List ℕ) (xs : List A) (output : List ℕ) (sized : 0 < w) where
  pub has-no-room : length output / w < length xs → (refused 12, output) ≡ write_records w bytes xs output
  unfolding write_records
  has-no-room h =
      let more : w * (length output / w + 1) ≤ w * length xs = mul-le-mul_left w (omega arith) in
      simp (lt-leb (w * length xs) (length output) (omega (arith, more, sized)))

  pub has-room : length xs ≤ length output / w → (after : List ℕ) → after ≡ written w bytes xs output → (given (w * length xs), after) ≡ write_records w bytes xs output
  unfolding write_records
  has-room h after e =
      let fits : w * length xs ≤ w * (length output / w) = mul-le-mul_left w h in
      ap (λ (l : List ℕ). (given (w * length xs), l)) e ∙ simp (le-leb (w * length xs) (length output) (omega (arith, fits, sized)))

-- A writer that has room.
pub has_room : {A : Type 0} (w : ℕ) (bytes : A → List ℕ) (xs : List A) (output : List ℕ) → w * length xs ≤ length output → (write_records w bytes xs output).1 ≡ written w bytes xs output
unfolding write_records
has_room w bytes xs output h = simp (le-leb (w * length xs) (length output) h)

-- And it is not turned down.
pub never-turned : {A : Type 0} (w : ℕ) (bytes : A → List ℕ) (xs : List A) (output : List ℕ) (wrote : Result ℕ Refusal) (after : List ℕ)
    → (counted wrote, after) ≡ write_records w bytes xs output → w * length xs ≤ length output → (refusal : Refusal) → wrote ≡ Err refusal → ⊥
unfolding write_records
never-turned w bytes xs output wrote after e h refusal f =
    let room : write_records w bytes xs output ≡ (given (w * length xs), written w bytes xs output) = simp (le-leb (w * length xs) (length output) h) in
    let same : refused (number refusal) ≡ given (w * length xs) = ap (λ (x : Answer ℕ × List ℕ). x.0) (ap (λ (x : Result ℕ Refusal). (counted x, after)) (sym f) ∙ e ∙ room) in
    cc

-- What a writer gives is within its output.
pub wrote-within : {A : Type 0} (w : ℕ) (bytes : A → List ℕ) (xs : List A) (output : List ℕ) (got : Answer ℕ × List ℕ) (size : ℕ) → got ≡ write_records w bytes xs output
    → got.0 ≡ given size → size ≤ length output
unfolding write_records
wrote-within w bytes xs output got size e f =
    let need : ℕ = w * length xs in
    let told = gives (room_tests need (length output)) need (written w bytes xs output) output got size e f in
    omega (arith, told.1, leb-true need (length output) told.0.0)

-- What a writer comes to where its count is not told: it is turned down, or it wrote.
module _ {A : Type 0} (w : ℕ) (bytes : A → List ℕ) (xs : List A) (output : List ℕ) (wrote : Result ℕ Refusal) (after : List ℕ)
    (e : (counted wrote, after) ≡ write_records w bytes xs output)
  where
    abbrev tests : Tests
    tests = room_tests (w * length xs) (length output)

    -- The outcome of such a writer.
    abbrev done : Answer (Unit {0}) × List ℕ
    done = outcome tests tt (written w bytes xs output) output

    pub wrote-turned : (refusal : Refusal) → wrote ≡ Err refusal → (refused (number refusal), after) ≡ done
    unfolding write_records
    wrote-turned refusal f =
        let new = written w bytes xs output in
        other-turned tests (w * length xs) tt new output after (number refusal) (ap (λ (x : Result ℕ Refusal). (counted x, after)) (sym f) ∙ e)

    pub wrote-given : (n : ℕ) → wrote ≡ Ok n → (given tt, after) ≡ done
    unfolding write_records
    wrote-given n f =
        let new = written w bytes xs output in
        other-given tests (w * length xs) tt new output after n (ap (λ (x : Result ℕ Refusal). (counted x, after)) (sym f) ∙ e)

    -- Both at once.
    pub wrote-done : (v : Result (Unit {0}) Refusal) → v ≡ verdict_of wrote → (verdict v, after) ≡ done
    wrote-done v f = ap (λ (x : Result (Unit {0}) Refusal). (verdict x, after)) f ∙ by wrote refl
      where
        by : (x : Result ℕ Refusal) → wrote ≡ x → (verdict (verdict_of x), after) ≡ done
        by (Ok n) g = wrote-given n g
        by (Err refusal) g = wrote-turned refusal g

-- ---- the round trips, from the round trip of one record

-- What was written is read back.
pub chunks-flat : {A : Type 0} (w : ℕ) (bytes : A → List ℕ) (read : List ℕ → A) → ((a : A) → length (bytes a) ≡ w) → ((a : A) (s : List ℕ) → read (bytes a ++ s) ≡ a)
    → (xs : List A) → chunks w read (length xs) (flat bytes xs) ≡ xs
unfolding chunks flat
chunks-flat {A} w bytes read width back xs = ap (chunks w read (length xs)) (sym (append-nil (flat bytes xs))) ∙ before xs []
  where
    before : (xs : List A) (s : List ℕ) → chunks w read (length xs) (flat bytes xs ++ s) ≡ xs
    before [] s = refl
    before (x ∷ xs) s =
        rw (append_assoc (bytes x) (flat bytes xs) s, back x (flat bytes xs ++ s), drop_at (bytes x) (flat bytes xs ++ s) w (width x), before xs s)

-- What was read is written again as it stood, if one record is; Q n s is what is known of the n records of s.
pub flat-chunks : {A : Type 0} (w : ℕ) (bytes : A → List ℕ) (read : List ℕ → A) (Q : ℕ → List ℕ → Type 0)
    → ((n : ℕ) (s : List ℕ) → Q (suc n) s → (bytes (read s) ≡ take w s) × Q n (drop w s))
    → (n : ℕ) (s : List ℕ) → Q n s → flat bytes (chunks w read n s) ≡ take (w * n) s
unfolding chunks flat
flat-chunks w bytes read Q step zero s q = rw mul-zero
flat-chunks w bytes read Q step (suc n) s q =
    let e : w * suc n ≡ w + w * n = mul-suc w n ∙ add_comm (w * n) w in
    let h = step n s q in
    rw (h.0, flat-chunks w bytes read Q step n (drop w s) h.1, e) (sym (take-add w (w * n) s))

-- n elements from place k on, each by its index.
abbrev spelled : ℕ → ℕ → List ℕ → List ℕ
spelled k zero s = []
spelled k (suc n) s = get_or s k 0 ∷ spelled (suc k) n s

pub spell : (n k : ℕ) (s : List ℕ) → k + n ≤ length s → take n (drop k s) ≡ spelled k n s
spell zero k s h = refl
spell (suc n) k s h =
    let m : k < length s = omega arith in
    let i : suc k + n ≤ length s = omega arith in
    rw (drop-cons s k 0 m) (ap (λ (l : List ℕ). get_or s k 0 ∷ l) (spell n (suc k) s i))

-- ---- two-byte numbers

pub word_back : (x : ℕ) → word (x / 256) (x % 256) ≡ x
word_back x = omega arith

pub word-high : (high low : ℕ) → low < 256 → word high low / 256 ≡ high
word-high high low l = omega arith

pub word_low : (high low : ℕ) → low < 256 → word high low % 256 ≡ low
word_low high low l = omega arith

pub word_width : (x : ℕ) → length (word_bytes x) ≡ 2
unfolding word_bytes
word_width x = refl

pub words_back : (xs : List ℕ) → chunks 2 word_of (length xs) (flat word_bytes xs) ≡ xs
unfolding word_of word_bytes
words_back xs = chunks-flat 2 word_bytes word_of word_width (λ x s. word_back x) xs

-- ---- four-byte numbers

pub long-width : (x : ℕ) → length (long_bytes x) ≡ 4
unfolding long_bytes word_bytes
long-width x = refl
