-- Laws of blocks that are the same between two places, and of parts `&s[from..end]` of them. Assumes nothing.
use Prim.Native.Nat.{ℕ, suc, ◌+◌, ◌-◌, ◌%◌, ◌≤◌, ◌<◌}
use mathlib.Core.Path.{◌≡◌, sym, ap, ap₂, ◌∙◌}
use mathlib.Core.Bool.{Bool, true, false, ◌&&◌, and-false}
use mathlib.Core.List.{List, [], ◌++◌}
use native.Mathlib.Nat.{zero-add, dvd-sub, dvd_of_mod-eq-zero, mod-eq-zero_of_dvd, add-mod_left, mod-eq_of_lt}
use native.Mathlib.Decide.{dec_le}
use native.Mathlib.Omega.{arith}
use lib.Dec.{eqb}
use lib.ListN.{length, get_or, take, drop, length-take, length-drop, length-append, get_or-eq_default}
use lib.Seq.{get_or-take, get_or-drop}
use borrow.Author.Tests.{eq-eqb}
use Rattle.std.proofs.lemmas.List.{nil_from_length}
use Rattle.sets.specs.Places.{every}
use Rattle.sets.proofs.Places.{every-same, every-split}
use Rattle.records.specs.Records.{AllBytes}
use Rattle.same_bytes.specs.Same.{same_at, same_bytes, same_between}

-- ---- parts

-- The bytes from a place up to an end, as a part has them.
abbrev pub part : ℕ → ℕ → List ℕ → List ℕ
part from end s = take (end - from) (drop from s)

pub part_length : (from end : ℕ) (s : List ℕ) → end ≤ length s → length (part from end s) ≡ end - from
part_length from end s h = simp (length-take, length-drop) (omega arith)

part_at : (from end : ℕ) (s : List ℕ) (i : ℕ) → i < end - from → get_or (part from end s) i 0 ≡ get_or s (from + i) 0
part_at from end s i h = rw (get_or-take, get_or-drop)

pub part_bytes : (from end : ℕ) (s : List ℕ) → AllBytes s → AllBytes (part from end s)
part_bytes from end s h i = elim (dec_le (suc i) (end - from)) [
  | yes l ↦ rw (part_at from end s i l) (h (from + i))
  | no l ↦
      let past : length (part from end s) ≤ i = simp length-take (omega arith) in
      rw (get_or-eq_default (part from end s) 0 past) (omega arith)
]

-- Between places of whole parts there are whole parts.
pub whole-parts : (size from end : ℕ) → from ≤ end → from % size ≡ 0 → end % size ≡ 0 → (end - from) % size ≡ 0
whole-parts size from end h ef ee = mod-eq-zero_of_dvd size (dvd-sub size (dvd_of_mod-eq-zero size ee) (dvd_of_mod-eq-zero size ef))

-- What is left of whole parts: after one there are whole ones, and where there is none there is nothing.
module _ (size : ℕ) (xs : List ℕ) where
  pub parts-next : (x rest : List ℕ) → rest ≡ x ++ xs → length x ≡ size → length rest % size ≡ 0 → length xs % size ≡ 0
  parts-next x rest e long whole =
      let sum : length rest ≡ size + length xs = ap length e ∙ length-append x xs ∙ ap (λ (n : ℕ). n + length xs) long in
      sym (add-mod_left size (length xs)) ∙ sym (ap (λ (n : ℕ). n % size) sum) ∙ whole

  pub no-parts : length xs < size → length xs % size ≡ 0 → xs ≡ []
  no-parts less whole = nil_from_length xs (sym (mod-eq_of_lt less) ∙ whole)

module _ (a b : List ℕ) where
  -- No place stands between a place and itself.
  pub between_none : (i : ℕ) → same_between a b i i ≡ true
  unfolding same_between every
  between_none i = let e : i - i ≡ 0 = omega arith in rw e

  -- The same up to a place between, and from there on.
  pub between_split : (from i end : ℕ) → from ≤ i → i ≤ end → same_between a b from end ≡ same_between a b from i && same_between a b i end
  unfolding same_between
  between_split from i end h l =
      let e : end - from ≡ (i - from) + (end - i) = omega arith in
      let shift = every-same _ _ (end - i) (λ k m. let g : from + (i - from + k) ≡ i + k = omega arith in ap (same_at a b) g) in
      ap (every (λ k. same_at a b (from + k))) e
      ∙ every-split _ (i - from) (end - i)
      ∙ ap (λ (t : Bool). every (λ k. same_at a b (from + k)) (i - from) && t) shift

  -- The test for same bytes goes over all places, that of parts over those of the part.
  pub between-whole : length a ≡ length b → same_bytes a b ≡ same_between a b 0 (length a)
  unfolding same_bytes same_between
  between-whole e =
      let all : length a - 0 ≡ length a = omega arith in
      rw all (ap₂ ◌&&◌ (eq-eqb (length a) (length b) e) (every-same _ _ (length a) (λ i l. ap (same_at a b) (sym (zero-add i)))))

  pub between-part : (from end : ℕ) → end ≤ length a → end ≤ length b → same_bytes (part from end a) (part from end b) ≡ same_between a b from end
  unfolding same_bytes same_between
  between-part from end ha hb =
      let la = part_length from end a ha in
      let lb = part_length from end b hb in
      ap₂ ◌&&◌ (eq-eqb _ _ (la ∙ sym lb)) (ap (every _) la)
      ∙ every-same _ _ (end - from) (λ i l. ap₂ eqb (part_at from end a i l) (part_at from end b i l))

  -- An answer about the places from one to another: after a yes what follows decides, a no decides alone.
  pub between-on : {same : Bool} {from i : ℕ} (end : ℕ) → same ≡ same_between a b from i → same ≡ true → from ≤ i → i ≤ end → same_between a b from end ≡ same_between a b i end
  between-on {from = from} {i = i} end e f h l = between_split from i end h l ∙ ap (λ (t : Bool). t && same_between a b i end) (sym e ∙ f)

  pub between-off : {same : Bool} {i next : ℕ} (from end : ℕ) → same ≡ same_between a b i next → same ≡ false → from ≤ i → i ≤ next → next ≤ end → same_between a b from end ≡ false
  between-off {i = i} {next = next} from end e f h l m =
      let off : same_between a b i end ≡ false = between_split i next end l m ∙ ap (λ (t : Bool). t && same_between a b next end) (sym e ∙ f) in
      between_split from i end h (omega arith) ∙ ap (λ (t : Bool). same_between a b from i && t) off ∙ and-false (same_between a b from i)

  -- Of whole blocks of one length: a no about some of the places, and what is left of both from a place on.
  pub whole-off : {same : Bool} {i next : ℕ} → same ≡ same_between a b i next → same ≡ false → length a ≡ length b → i ≤ next → next ≤ length a → same_bytes a b ≡ false
  whole-off f g e h l = between-whole e ∙ between-off 0 (length a) f g (omega arith) h l

  pub between-rest : (i : ℕ) → length a ≡ length b → same_bytes (part i (length a) a) (part i (length b) b) ≡ same_between a b i (length a)
  between-rest i e = ap (λ (n : ℕ). same_bytes (part i (length a) a) (part i n b)) (sym e) ∙ between-part i (length a) (omega arith) (omega arith)
