-- Records of four bytes as numbers: equal numbers are exactly equal bytes, and differences of numbers gathered bit by bit. Assumes nothing.
use Prim.Native.Nat.{ℕ, zero, suc, ◌+◌, ◌-◌, ◌≤◌, ◌<◌}
use mathlib.Core.Path.{◌≡◌, refl, sym, ap, ap₂, subst, ◌∙◌}
use mathlib.Core.Bool.{Bool, ◌&&◌, and_assoc}
use mathlib.Core.List.{List, ◌++◌}
use mathlib.Core.Logic.{◌↔◌}
use native.Mathlib.Decide.{ℕ_discrete}
use native.Mathlib.Omega.{arith}
use lib.Bits.{bit_or, bit_xor, or_add_and, xor_add_and, xor_self, and_le_l, and_le_r}
use lib.Dec.{eqb}
use lib.ListN.{length, get_or, take}
use lib.Seq.{ext_get_or, get_or-drop, take-append_seam, drop-append_seam}
use borrow.Author.Tests.{eq-eqb, ne_eqb}
use Rattle.records.specs.Records.{AllBytes}
use Rattle.same_bytes.specs.Same.{same_bytes, same_between, record_size, number_of}
use Rattle.same_bytes.proofs.Equality.{same-exactly, not_same, same-split}
use Rattle.same_bytes.proofs.Parts.{part, part_length, part_bytes, between_split, between-part}

module _ (x y : List ℕ) (length-x : length x ≡ record_size) (length-y : length y ≡ record_size) (bytes-x : AllBytes x) (bytes-y : AllBytes y) where
  -- Two records have one number exactly if they are the same bytes.
  pub number-exactly : (number_of x ≡ number_of y) ↔ (x ≡ y)
  number-exactly = (λ e. ext_get_or 0 x y (length-x ∙ sym length-y) (λ i l. byte e i (omega arith)), ap number_of)
    where
      byte : number_of x ≡ number_of y → (i : ℕ) → i < record_size → get_or x i 0 ≡ get_or y i 0
      byte e zero l = omega (arith, bytes-x 0, bytes-y 0)
      byte e (suc zero) l = omega (arith, bytes-x 0, bytes-y 0, bytes-x 1, bytes-y 1)
      byte e (suc (suc zero)) l = omega (arith, bytes-x 0, bytes-y 0, bytes-x 1, bytes-y 1, bytes-x 2, bytes-y 2)
      byte e (suc (suc (suc zero))) l = omega (arith, bytes-x 0, bytes-y 0, bytes-x 1, bytes-y 1, bytes-x 2, bytes-y 2)
      byte e (suc (suc (suc (suc i)))) l = absurd (omega arith)

  -- The same, of the tests.
  number_same : eqb (number_of x) (number_of y) ≡ same_bytes x y
  number_same = elim (ℕ_discrete (number_of x) (number_of y)) [
    | yes e ↦ eq-eqb _ _ e ∙ sym ((same-exactly x y).1 (number-exactly.0 e))
    | no e ↦ ne_eqb _ _ e ∙ sym (not_same x y (λ p. e (number-exactly.1 p)))
  ]

or-none : (m n : ℕ) → bit_or m n ≡ 0 → (m ≡ 0) × (n ≡ 0)
or-none m n e =
    let sum = or_add_and m n in
    (omega (arith, sum, and_le_r m n), omega (arith, sum, and_le_l m n))

xor-none : (m n : ℕ) → bit_xor m n ≡ 0 → m ≡ n
xor-none m n e = omega (arith, xor_add_and m n, and_le_l m n, and_le_r m n)

-- No difference is gathered exactly if there was none and the next two numbers are equal.
gathered : (differences m n : ℕ) → eqb (bit_or differences (bit_xor m n)) 0 ≡ eqb differences 0 && eqb m n
gathered d m n = elim (ℕ_discrete d 0) [
  | no e ↦ ne_eqb _ 0 (λ z. e (or-none d (bit_xor m n) z).0) ∙ sym (ap (λ (t : Bool). t && eqb m n) (ne_eqb d 0 e))
  | yes e ↦ elim (ℕ_discrete m n) [
    | no f ↦ ne_eqb _ 0 (λ z. f (xor-none m n (or-none d (bit_xor m n) z).1)) ∙ sym (ap₂ ◌&&◌ (eq-eqb d 0 e) (ne_eqb m n f))
    | yes f ↦ rw (e, f, xor_self n) (sym (eq-eqb n n refl))
  ]
]

-- Gathering: one record on.
pub gather-next : (a b : List ℕ) (i differences m n : ℕ) → AllBytes a → AllBytes b → i + record_size ≤ length a → i + record_size ≤ length b
    → m ≡ number_of (part i (i + record_size) a) → n ≡ number_of (part i (i + record_size) b)
    → eqb differences 0 ≡ same_between a b 0 i → eqb (bit_or differences (bit_xor m n)) 0 ≡ same_between a b 0 (i + record_size)
gather-next a b i d m n ba bb la lb em en e =
    let end : ℕ = i + record_size in
    let wide : end - i ≡ record_size = omega arith in
    let next = number_same (part i end a) (part i end b) (part_length i end a la ∙ wide) (part_length i end b lb ∙ wide) (part_bytes i end a ba) (part_bytes i end b bb) in
    gathered d m n ∙ ap₂ ◌&&◌ e (ap₂ eqb em en ∙ next ∙ between-part a b i end la lb) ∙ sym (between_split a b 0 i end (omega arith) (omega arith))

-- The same, of the records that are left.
pub gather-on : (x y xs ys : List ℕ) (differences m n : ℕ) → length x ≡ record_size → length y ≡ record_size → AllBytes x → AllBytes y → m ≡ number_of x → n ≡ number_of y
    → eqb differences 0 && same_bytes (x ++ xs) (y ++ ys) ≡ eqb (bit_or differences (bit_xor m n)) 0 && same_bytes xs ys
gather-on x y xs ys d m n lx ly bx by em en =
    ap (λ (t : Bool). eqb d 0 && t) (same-split x y xs ys (lx ∙ sym ly) ∙ ap (λ (t : Bool). t && same_bytes xs ys) (sym (ap₂ eqb em en ∙ number_same x y lx ly bx by)))
    ∙ sym (and_assoc (eqb d 0) (eqb m n) (same_bytes xs ys))
    ∙ ap (λ (t : Bool). t && same_bytes xs ys) (sym (gathered d m n))

-- The bytes of the next record and of those after it.
pub next-bytes : (x xs : List ℕ) → AllBytes (x ++ xs) → AllBytes x × AllBytes xs
next-bytes x xs h = (
  λ i. let here : part 0 (length x) (x ++ xs) ≡ x = ap (λ (n : ℕ). take n (x ++ xs)) (omega arith) ∙ take-append_seam x xs in
      subst (λ (s : List ℕ). get_or s i 0 < 256) here (part_bytes 0 (length x) (x ++ xs) h i),
  λ i. subst (λ (s : List ℕ). get_or s i 0 < 256) (drop-append_seam x xs) (rw (get_or-drop) (h (length x + i))),
)
