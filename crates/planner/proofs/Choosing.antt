-- A level's search, size by size: the sets that the code walks through are those of the order by periods. Assumes nothing.
use Prim.Native.Nat.{ℕ, suc, ◌+◌, ◌-◌, ◌^◌, ◌≤◌, ◌<◌, min}
use mathlib.Core.Path.{◌≡◌, refl, sym, ap, subst, ◌∙◌}
use mathlib.Core.Bool.{Bool, true}
use mathlib.Core.List.{List}
use mathlib.Core.Option.{some}
use native.Mathlib.Nat.{mod-eq_of_lt}
use native.Mathlib.Omega.{arith}
use lib.ListN.{length, take}
use lib.Pow.{pow_mono}
use Rattle.sets.specs.Sets.{places, has, within, size, first_jobs}
use Rattle.sets.specs.Order.{subsets, first_taken, considered}
use Rattle.sets.proofs.Places.{over-same}
use Rattle.sets.proofs.Members.{has-full, member-lt}
use Rattle.sets.proofs.Parts.{has_within, within-refl}
use Rattle.sets.proofs.Ordering.{keep-few}
use Rattle.sets.proofs.Considering.{considered-few}
use Rattle.sets.proofs.Searching.{Reached, Answers, reached-none, reached-end, part-taken, part-next}
use Rattle.records.specs.declared.job.Job.{Job}
use Rattle.periods.specs.ByPeriods.{total, period_at, by_periods}
use Rattle.periods.specs.Subsets.{weight_in, heaviest_first, SubsetsOf}
use Rattle.periods.specs.declared.subsets.Subsets.{Subsets}
use Rattle.periods.proofs.Ruling.{periods-length}
use Rattle.periods.proofs.SizeBySize.{part-subsets, heaviest-same, beyond, beyond-all, beyond-next, beyond-none, next-some}
use Rattle.planner.specs.declared.question.Question.{Question}
use Rattle.planner.specs.declared.choice.Choice.{Choice}
use Rattle.planner.specs.Questions.{listed, finds}
use Rattle.planner.specs.Stages.{most_sets, takeable, Chosen, Sorted}
use Rattle.planner.proofs.Asked.{listed_at}

module _ (question : Question) (sums singles : List ℕ) (S : Sorted question sums singles) where
  abbrev weigh : ℕ → ℕ
  weigh = total (period_at (listed question))

  -- The table's sum of a set is the sum of the periods of the list.
  weight_is : (s : ℕ) → s < 2 ^ question.n → weight_in sums s ≡ weigh s
  unfolding total
  weight_is s b =
      mod-eq_of_lt (omega (arith, S.total.small s b, question.few))
      ∙ S.total.is s b
      ∙ over-same places (has s) (has s) (period_at question.workload.jobs) (period_at (listed question)) (λ i il. refl)
      (λ i il e. ap (λ (job : Job). job.period) (sym (listed_at question i (member-lt question.n s i b e))))

  module _ (left : ℕ) (less : left < 2 ^ question.n) where
    byte : left < 2 ^ places
    byte = omega (arith, pow_mono question.few)

    in_order : (m : ℕ) → heaviest_first (weight_in sums) left m ≡ heaviest_first weigh left m
    in_order m = heaviest-same (weight_in sums) weigh left m (λ s l. weight_is s (omega arith))

    of-all : within left (first_jobs question.n) ≡ true
    unfolding first_jobs
    of-all =
        let e : min question.n places ≡ question.n = omega (arith, question.few) in
        ap (λ (k : ℕ). within left (2 ^ k - 1)) e ∙ has_within question.n left (2 ^ question.n - 1) less (λ i il h. has-full question.n i il)

    -- What the code walks through.
    pub singles-are : subsets left singles ≡ heaviest_first weigh left 1
    singles-are = ap (subsets left) S.alone ∙ part-subsets (weight_in sums) left (first_jobs question.n) 1 byte of-all ∙ in_order 1

    pub found-are : (m : ℕ) (r : Subsets) → SubsetsOf sums left m r → subsets left (take r.count r.sets) ≡ heaviest_first weigh left m
    found-are m r I = ap (subsets left) I.is ∙ part-subsets (weight_in sums) left left m byte (within-refl left) ∙ in_order m

    -- ---- the search

    abbrev can : ℕ → Bool
    can = takeable question left

    abbrev tried : List ℕ
    tried = subsets left (by_periods (listed question))

    tried-few : length (considered can tried) ≤ most_sets
    unfolding subsets
    tried-few = omega (arith, considered-few can tried, keep-few (λ s. within s left) (by_periods (listed question)), periods-length (listed question))

    -- The sets that have up to m members are considered, and none of them can be taken.
    abbrev pub Searched : ℕ → ℕ → Type 0
    Searched m missed = Reached can tried (beyond weigh left m) missed

    pub search-starts : Searched 0 0
    unfolding by_periods
    search-starts = subst (λ (sets : List ℕ). Reached can tried sets 0) (beyond-all weigh left) (reached-none can tried)

    -- What it comes to.
    answered : (r : Choice) → Answers can tried r.set r.considered → (0 < r.set → finds question left r.set ≡ some (take question.n r.quanta))
        → Chosen question (by_periods (listed question)) left r
    answered r W quanta = record {
      set = sym W.first;
      quanta = quanta;
      count = sym W.count;
      few = omega (arith, W.count, tried-few, periods-length (listed question));
    }

    module _ (m missed : ℕ) (R : Searched m missed) where
      pub missed-few : missed ≤ most_sets
      missed-few = omega (arith, R.count, tried-few)

      -- All sizes are tried.
      pub search-ends : size left ≤ m → (r : Choice) → r.set ≡ 0 → r.considered ≡ missed → Chosen question (by_periods (listed question)) left r
      search-ends l r none count =
          let W = reached-end can tried (beyond weigh left m) missed R (beyond-none weigh left m l) in
          answered r (record { first = W.first ∙ sym none; count = W.count ∙ sym count }) (λ p. absurd (omega arith))

      -- The sets of one member more are tried: r is what was found among them.
      module _ (l : m < places) (part : List ℕ) (are : subsets left part ≡ heaviest_first weigh left (suc m)) (r : Choice) (C : Chosen question part left r) where
        first-is : r.set ≡ first_taken can (heaviest_first weigh left (suc m))
        first-is = C.set ∙ ap (first_taken can) are

        count-is : r.considered ≡ length (considered can (heaviest_first weigh left (suc m)))
        count-is = C.count ∙ ap (λ (sets : List ℕ). length (considered can sets)) are

        pub size-misses : r.set ≡ 0 → (next more : ℕ) → next ≡ suc m → more ≡ missed + r.considered → Searched next more
        size-misses none next more en em =
            let W = part-next can tried (beyond weigh left m) missed R (heaviest_first weigh left (suc m)) (beyond weigh left (suc m)) (beyond-next weigh left m l)
            (next-some weigh left m) (sym first-is ∙ none) in
            let e : missed + length (considered can (heaviest_first weigh left (suc m))) ≡ more = omega (arith, count-is) in
            subst (λ (k : ℕ). Searched k more) (sym en) (subst (λ (k : ℕ). Searched (suc m) k) e W)

        pub size-takes : (r.set ≡ 0 → ⊥) → (whole : Choice) → whole.set ≡ r.set → whole.quanta ≡ r.quanta → whole.considered ≡ missed + r.considered
            → Chosen question (by_periods (listed question)) left whole
        size-takes some-set whole es eq ec =
            let W = part-taken can tried (beyond weigh left m) missed R (heaviest_first weigh left (suc m)) (beyond weigh left (suc m)) (beyond-next weigh left m l) (omega (arith, first-is)) in
            answered whole
            (record { first = W.first ∙ sym (es ∙ first-is); count = W.count ∙ omega (arith, ec, count-is) })
            (λ p. ap (finds question left) es ∙ C.quanta (omega (arith, es)) ∙ ap (λ (q : List ℕ). some (take question.n q)) (sym eq))
