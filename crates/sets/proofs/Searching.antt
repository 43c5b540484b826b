-- A search through sets for the first that can be taken: what it has reached, set by set or part by part. Assumes nothing.
use Prim.Native.Nat.{ℕ, ◌+◌, ◌<◌}
use mathlib.Core.Path.{◌≡◌, refl, ap, ◌∙◌}
use mathlib.Core.Bool.{Bool, true, false}
use mathlib.Core.List.{List, [], ◌∷◌, ◌++◌, Memᴰ}
use native.Mathlib.Omega.{arith}
use lib.ListN.{length}
use Rattle.sets.specs.Order.{first_taken, considered}
use Rattle.sets.proofs.Considering.{first-hit, first-miss, append-hit, append-miss}

module _ (takeable : ℕ → Bool) (all : List ℕ) where
  -- m sets are considered, none of them can be taken, and the rest are still to be tried.
  pub record Reached (rest : List ℕ) (m : ℕ) : Type 0 where
    pub first : first_taken takeable all ≡ first_taken takeable rest
    pub count : length (considered takeable all) ≡ m + length (considered takeable rest)

  -- What the search answers: the set, 0 where there is none, and the number of sets considered.
  pub record Answers (set tried : ℕ) : Type 0 where
    pub first : first_taken takeable all ≡ set
    pub count : length (considered takeable all) ≡ tried

  pub reached-none : Reached all 0
  reached-none = record { first = refl; count = omega arith }

  module _ (rest : List ℕ) (m : ℕ) (R : Reached rest m) where
    pub reached-end : rest ≡ [] → Answers 0 m
    unfolding first_taken considered
    reached-end e = record { first = R.first ∙ ap (first_taken takeable) e; count = omega (arith, R.count, ap (λ (l : List ℕ). length (considered takeable l)) e) }

    -- The next set is tried.
    module _ (s : ℕ) (after : List ℕ) (next : rest ≡ s ∷ after) where
      pub reached-taken : takeable s ≡ true → Answers s (m + 1)
      reached-taken e =
          let w = first-hit takeable s after e in
          record {
            first = R.first ∙ ap (first_taken takeable) next ∙ w.0;
            count = omega (arith, R.count, ap (λ (l : List ℕ). length (considered takeable l)) next, ap length w.1);
          }

      pub reached-next : takeable s ≡ false → Reached after (m + 1)
      reached-next e =
          let w = first-miss takeable s after e in
          record {
            first = R.first ∙ ap (first_taken takeable) next ∙ w.0;
            count = omega (arith, R.count, ap (λ (l : List ℕ). length (considered takeable l)) next, ap length w.1);
          }

    -- The sets of the next part are tried, none of them empty.
    module _ (part after : List ℕ) (next : rest ≡ part ++ after) where
      pub part-taken : 0 < first_taken takeable part → Answers (first_taken takeable part) (m + length (considered takeable part))
      part-taken p =
          let w = append-hit takeable part after p in
          record {
            first = R.first ∙ ap (first_taken takeable) next ∙ w.0;
            count = omega (arith, R.count, ap (λ (l : List ℕ). length (considered takeable l)) next, ap length w.1);
          }

      pub part-next : ((s : ℕ) → Memᴰ s part → 0 < s) → first_taken takeable part ≡ 0 → Reached after (m + length (considered takeable part))
      part-next some z =
          let w = append-miss takeable part after some z in
          record {
            first = R.first ∙ ap (first_taken takeable) next ∙ w.0;
            count = omega (arith, R.count, ap (λ (l : List ℕ). length (considered takeable l)) next, w.1);
          }
