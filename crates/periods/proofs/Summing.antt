-- How the code sums the periods of all sets: with each job, the sets known so far once more, its period added. Assumes nothing.
use mathlib.Core.Path.{◌≡◌, refl, sym, ◌∙◌, ap}
use mathlib.Core.Bool.{Bool, true, ◌||◌, or-true, or-false, false≢true}
use mathlib.Core.List.{List}
use Prim.Native.Nat.{ℕ, ◌+◌, ◌*◌, ◌-◌, ◌^◌, ◌≤◌, ◌<◌}
use native.Mathlib.Numerals.{add-one}
use native.Mathlib.Decide.{dec_le}
use native.Mathlib.Omega.{arith}
use lib.Bits.{bit_or, or_shifted_r}
use lib.Dec.{eqb}
use lib.ListN.{get_or, replicate, get_or-replicate}
use borrow.Author.Tests.{eq-eqb, ne_eqb}
use Rattle.sets.specs.Sets.{places, has, insert}
use Rattle.sets.proofs.Places.{over_zero, over-same, over-cut, over-in}
use Rattle.sets.proofs.Members.{has-none, has-high, has-insert, single-is, eqb_swap}
use Rattle.periods.specs.ByPeriods.{total}
use Rattle.periods.specs.Sums.{SumsOf, Doubled}

total-none : (values : ℕ → ℕ) → total values 0 ≡ 0
unfolding total
total-none values = over_zero places (has 0) values (λ i l e. absurd (false≢true (sym (has-none i) ∙ e)))

-- A set of the first jobs with the next job too.
module _ (job s : ℕ) (l : job < places) (b : s < 2 ^ job) where
  insert-is : insert s job ≡ 2 ^ job + s
  unfolding insert
  insert-is =
      let one : 2 ^ job ≡ 1 * 2 ^ job = omega arith in
      ap (bit_or s) (single-is job l ∙ one) ∙ or_shifted_r 1 job s b ∙ ap (λ (x : ℕ). x + s) (sym one)

  has_more : (i : ℕ) → has (2 ^ job + s) i ≡ (has s i || eqb i job)
  has_more i = ap (λ (x : ℕ). has x i) (sym insert-is) ∙ has-insert s job i l ∙ ap (λ (c : Bool). has s i || c) (eqb_swap job i)

  own : has (2 ^ job + s) job ≡ true
  own = has_more job ∙ ap (λ (c : Bool). has s job || c) (eq-eqb job job refl) ∙ or-true (has s job)

  others : (i : ℕ) → i < job → has (2 ^ job + s) i ≡ has s i
  others i il = has_more i ∙ ap (λ (c : Bool). has s i || c) (ne_eqb i job (λ e. omega arith)) ∙ or-false (has s i)

  none-past : (t k : ℕ) (values : ℕ → ℕ) → t < 2 ^ k → (i : ℕ) → k ≤ i → has t i ≡ true → values i ≡ 0
  none-past t k values tl i il e = absurd (false≢true (sym (has-high k t i tl il) ∙ e))

  pub total-more : (values : ℕ → ℕ) → total values (2 ^ job + s) ≡ total values s + values job
  unfolding total
  total-more values =
      let twice : 2 ^ (job + 1) ≡ 2 ^ job + 2 ^ job = rw add-one (omega arith) in
      over-cut (job + 1) places (has (2 ^ job + s)) values (omega arith) (λ i il im. none-past (2 ^ job + s) (job + 1) values (omega arith) i il)
      ∙ over-in job (has (2 ^ job + s)) values refl own
      ∙ ap (λ (x : ℕ). x + values job)
      (over-same job (has (2 ^ job + s)) (has s) values values others (λ i il e. refl)
      ∙ sym (over-cut job places (has s) values (omega arith) (λ i il im. none-past s job values b i il)))

-- ---- the loop over the sets that one job more makes

module _ (half period : ℕ) (before : List ℕ) where
  -- So many of them have their sums.
  pub record Doubling (sums : List ℕ) (done : ℕ) : Type 0 where
    pub kept : (s : ℕ) → s < half → get_or sums s 0 ≡ get_or before s 0
    pub more : (s : ℕ) → s < done → get_or sums (half + s) 0 ≡ get_or before s 0 + period

-- ---- the loop over the jobs

module _ (periods : ℕ → ℕ) where
  -- With no job there is the empty set alone.
  pub sums_none : SumsOf periods 0 (replicate 256 0)
  sums_none = record {
    is = λ s l. let e : s ≡ 0 = omega arith in
        get_or-replicate 256 s 0 0 (omega arith) ∙ sym (ap (total periods) e ∙ total-none periods);
    small = λ s l. omega (arith, get_or-replicate {A = ℕ} 256 s 0 0 (omega arith));
  }

  -- One job more: the table is doubled with its period.
  module _ (job half period : ℕ) (sums after : List ℕ) (S : SumsOf periods job sums) (l : job < places) (eh : half ≡ 2 ^ job)
      (ep : period ≡ periods job) (small : period ≤ 65535) where
    pub sums-fit : (s : ℕ) → s < half → get_or sums s 0 + period < 2 ^ 32
    sums-fit s b = omega (arith, S.small s (omega arith))

    pub sums_next : Doubled half period sums after → SumsOf periods (job + 1) after
    sums_next D = record {
      is = λ s b. elim (dec_le half s) [
        | yes g ↦
            let t = s - half in
            let e : half + t ≡ s = omega arith in
            let tb : t < 2 ^ job = omega (arith, twice) in
            let more : total periods (half + t) ≡ total periods t + periods job = ap (λ (h : ℕ). total periods (h + t)) eh ∙ total-more job t l tb periods in
            ap (λ (x : ℕ). get_or after x 0) (sym e) ∙ D.more t (omega arith) ∙ omega (arith, S.is t tb, more) ∙ ap (total periods) e
        | no g ↦ D.kept s (omega arith) ∙ S.is s (omega arith)
      ];
      small = λ s b. elim (dec_le half s) [
        | yes g ↦
            let t = s - half in
            let e : half + t ≡ s = omega arith in
            omega (arith, ap (λ (x : ℕ). get_or after x 0) e, D.more t (omega (arith, twice)), S.small t (omega (arith, twice)))
        | no g ↦ omega (arith, D.kept s (omega arith), S.small s (omega arith))
      ];
    }
      where
        twice : 2 ^ (job + 1) ≡ 2 ^ job + 2 ^ job
        twice = rw add-one (omega arith)
