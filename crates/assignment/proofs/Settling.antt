-- The recursion over a layer's jobs that settles their quanta, step by step. Assumes nothing.
use Prim.Native.Nat.{ℕ, suc, ◌+◌, ◌-◌, ◌≤◌, ◌<◌}
use mathlib.Core.Path.{◌≡◌, refl, sym, ap, ◌∙◌}
use mathlib.Core.Bool.{Bool, true, false, cond, false≢true}
use mathlib.Core.List.{List}
use mathlib.Core.Option.{Option, none, some}
use native.Mathlib.Nat.{le_refl}
use native.Mathlib.Numerals.{add-one}
use native.Mathlib.Decide.{ℕ_discrete, dec_le}
use native.Mathlib.Omega.{arith}
use lib.ListN.{length, get_or, set, take, length-set, get_or-eq_default}
use lib.Seq.{get_or-set_same, get_or-set_other, get_or-take, length-take-le}
use Rattle.sets.specs.Sets.{Set}
use Rattle.records.specs.declared.job.Job.{Job}
use Rattle.response.specs.Demand.{bound}
use Rattle.response.proofs.Easier.{bound-same}
use Rattle.assignment.specs.Plan.{smallest, quantum_ranges, serves}
use Rattle.assignment.specs.Layers.{Fits, Low, Standing, Hopeless, Raised, Settled}
use Rattle.assignment.proofs.Serving.{Costs, in-range, ranged-fits, raise, settled, hopeless}

module _ (jobs : List Job) (costs : Costs jobs) (low high : ℕ) (lp : 0 < low) (layer above : Set) where
  abbrev n : ℕ
  n = length jobs

  abbrev Stands : List ℕ → Type 0
  Stands = Standing jobs low high layer above

  -- ---- one job's quantum is raised

  module _ (k : ℕ) (kn : k < n) (kl : layer k ≡ true) (q : List ℕ) (S : Stands q) (unserved : 0 < bound jobs q layer above k → ⊥) where
    raised : get_or q k 0 < high → Stands (set q k (get_or q k 0 + 1))
    raised h = rw add-one (record {
      long = omega (arith, length-set q k (suc (get_or q k 0)), S.long);
      in_range = λ i l e. elim (ℕ_discrete i k) [
        | yes g ↦ rw (g, get_or-set_same q k (suc (get_or q k 0)) 0 (omega (arith, S.long))) (let w = S.in_range k kn kl in (omega (arith, w.0), omega arith))
        | no g ↦ rw (get_or-set_other q k i (suc (get_or q k 0)) 0 g) (S.in_range i l e)
      ];
      zero = λ i l e. get_or-set_other q k i (suc (get_or q k 0)) 0 (λ g. false≢true (sym e ∙ ap layer g ∙ kl)) ∙ S.zero i l e;
      least = raise jobs costs low high lp layer above q S.least k kn (omega (arith, S.long)) kl unserved;
    })

    -- It is not served with the highest quantum.
    pub past-highest : high ≤ get_or q k 0 → Hopeless jobs low high layer above
    past-highest h = hopeless jobs costs low high lp layer above q k kn kl unserved h (λ w f served i il x d. S.least w f served i)

  pub raised-none : (k : ℕ) (q : List ℕ) → Stands q → Raised jobs low high layer above k q q
  raised-none k q S = record { standing = S; kept = λ i d. refl; rises = le_refl (get_or q k 0) }

  pub raised-next : (k : ℕ) → k < n → layer k ≡ true → (before q : List ℕ) → Raised jobs low high layer above k before q
      → (0 < bound jobs q layer above k → ⊥) → get_or q k 0 < high → Raised jobs low high layer above k before (set q k (get_or q k 0 + 1))
  raised-next k kn kl before q R unserved h = record {
    standing = raised k kn kl q R.standing unserved h;
    kept = λ i d. get_or-set_other q k i (get_or q k 0 + 1) 0 d ∙ R.kept i d;
    rises = rw (get_or-set_same q k (get_or q k 0 + 1) 0 (omega (arith, R.standing.long))) (omega (arith, R.rises));
  }

  -- ---- the pending jobs

  -- None is pending.
  pub none-pending : (pending : Set) (q : List ℕ) → ((i : ℕ) → pending i ≡ false) → Stands q → Settled jobs low high layer above pending q q
  none-pending pending q h S = record { standing = S; kept = λ i e. refl; served = λ k l e. absurd (false≢true (sym (h k) ∙ e)) }

  -- One turn: the job k is pending with the set after it; v is where the quanta stood at first, now is where the jobs after were
  -- settled from, they came to u, and the job's own quantum was then raised to w.
  module _ (k : ℕ) (kn : k < n) (kl : layer k ≡ true) (pending after : Set) (own : pending k ≡ true) (off : after k ≡ false)
      (inside : (i : ℕ) → pending i ≡ true → (i ≡ k → ⊥) → after i ≡ true) (outside : (i : ℕ) → pending i ≡ false → after i ≡ false)
      (v now : List ℕ) (same : (i : ℕ) → pending i ≡ false → get_or now i 0 ≡ get_or v i 0) (u : List ℕ) (T : Settled jobs low high layer above after now u)
      (w : List ℕ) (R : Raised jobs low high layer above k u w) (served : 0 < bound jobs w layer above k)
    where
      -- It stayed: all that were pending are settled.
      pub turn-ends : get_or w k 0 ≡ get_or u k 0 → Settled jobs low high layer above pending v u
      turn-ends e = record {
        standing = T.standing;
        kept = λ i x. T.kept i (outside i x) ∙ same i x;
        served = λ i l x. elim (ℕ_discrete i k) [ yes y ↦ rw y still | no y ↦ T.served i l (inside i x y) ];
      }
        where
          all : (i : ℕ) → get_or w i 0 ≡ get_or u i 0
          all i = elim (ℕ_discrete i k) [ yes y ↦ rw y e | no y ↦ R.kept i y ]

          still : 0 < bound jobs u layer above k
          still = rw (bound-same jobs k w u layer layer above above (all k) (λ i il x. all i) (λ i il. refl) (λ i il. refl)) at served

      -- It rose: the next turn starts from there.
      pub turn-goes : (i : ℕ) → pending i ≡ false → get_or w i 0 ≡ get_or v i 0
      turn-goes i x = R.kept i (λ y. false≢true (sym x ∙ ap pending y ∙ own)) ∙ T.kept i (outside i x) ∙ same i x

      pub turn-less : (get_or w k 0 ≡ get_or u k 0 → ⊥) → high - get_or w k 0 < high - get_or now k 0
      turn-less d = omega (arith, T.kept k off, R.rises, (R.standing.in_range k kn kl).1)

  -- ---- from the lowest quanta

  pub lowest-stands : low ≤ high → (q : List ℕ) → n ≤ length q → ((i : ℕ) → get_or q i 0 ≡ cond (layer i) low 0) → ((i : ℕ) → n ≤ i → layer i ≡ false) → Stands q
  lowest-stands lh q long at past = record {
    long = long;
    in_range = λ i l e. let v : get_or q i 0 ≡ low = at i ∙ rw e in omega arith;
    zero = λ i l e. at i ∙ rw e;
    least = λ w f served i. elim (dec_le (suc i) n) [
      | yes l ↦ go w f i l (layer i) refl
      | no l ↦ let v : get_or q i 0 ≡ 0 = at i ∙ rw (past i (omega arith)) in omega arith
    ];
  }
    where
      go : (w : List ℕ) → Fits (quantum_ranges low high layer n) w → (i : ℕ) → i < n → (b : Bool) → layer i ≡ b → get_or q i 0 ≤ get_or w i 0
      go w f i l true e = let v : get_or q i 0 ≡ low = at i ∙ rw e in omega (arith, (in-range low high layer n w f i l e).0)
      go w f i l false e = let v : get_or q i 0 ≡ 0 = at i ∙ rw e in omega arith

  -- A job is not served with the highest quantum beside the lowest of the others (000, property 3): no quanta serve the layer.
  pub out-of-reach : (k : ℕ) → k < n → layer k ≡ true → (q : List ℕ) → get_or q k 0 ≡ high → ((i : ℕ) → (i ≡ k → ⊥) → get_or q i 0 ≡ cond (layer i) low 0)
      → (0 < bound jobs q layer above k → ⊥) → Hopeless jobs low high layer above
  out-of-reach k kn kl q own others unserved =
      hopeless jobs costs low high lp layer above q k kn kl unserved (omega arith)
      (λ w f served i il e d. let v : get_or q i 0 ≡ low = others i d ∙ rw e in omega (arith, (in-range low high layer n w f i il e).0))

  -- What is settled from the lowest quanta is the smallest list.
  pub says-smallest : (v u : List ℕ) → Settled jobs low high layer above layer v u → some (take n u) ≡ smallest (quantum_ranges low high layer n) (serves jobs layer above)
  says-smallest v u S =
      sym (settled jobs costs low high lp layer above (take n u) least
      (ranged-fits low high layer n (take n u) (length-take-le n u S.standing.long)
      (λ i l e. rw (get_or-take n u i 0 l) (S.standing.in_range i l e)) (λ i l e. get_or-take n u i 0 l ∙ S.standing.zero i l e))
      (λ k l e. rw (bound-same jobs k (take n u) u layer layer above above (get_or-take n u k 0 l) (λ i il x. get_or-take n u i 0 il) (λ i il. refl) (λ i il. refl)) (S.served k l e)))
    where
      least : Low jobs low high layer above (take n u)
      least w f served i = elim (dec_le (suc i) n) [
        | yes l ↦ rw (get_or-take n u i 0 l) (S.standing.least w f served i)
        | no l ↦
            let h : length (take n u) ≤ i = omega (arith, length-take-le n u S.standing.long) in
            rw (get_or-eq_default (take n u) 0 h) (omega arith)
      ]
