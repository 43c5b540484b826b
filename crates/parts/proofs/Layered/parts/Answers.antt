use Prim.Native.Nat.{ℕ}
use mathlib.Core.Path.{◌≡◌, refl, sym, ◌∙◌, ap, ap₂}
use mathlib.Core.Bool.{Bool, cond}
use mathlib.Core.Logic.{◌⊎◌, inl, inr, ⊎_elim}
use mathlib.Core.List.{List}
use native.Mathlib.Decide.{ℕ_discrete}
use native.Mathlib.Omega.{arith}
use lib.ListN.{length}
use borrow.Author.Tests.{eq-eqb, ne_eqb}
use Rattle.sets.specs.Sets.{Set, has, single, join}
use Rattle.records.specs.declared.job.Job.{Job}
use Rattle.response.specs.Demand.{first_bound, with_neighbours, only, second_bound, lesser, bound}
use Rattle.response.proofs.Easier.{second-first}
use Rattle.response.proofs.Breakdown.{parts_none, parts_first, parts-second, one-decides}
use Rattle.finishes.specs.Finishes.{utilisations_of}
use Rattle.search.specs.Search.{one_bound}
use Rattle.search.specs.declared.workload.Workload.{Workload}
use Rattle.search.proofs.Deciding.{with-set, only_set}
use Rattle.parts.proofs.Reached.{bound-found, no-neighbours}
use Rattle.parts.proofs.Layered.parts.Goals as goal
use Rattle.parts.proofs.Layered.parts.Goals.{After-lesser-bound}

-- After the lesser of the two bounds: each is the definition's.
module _ (c : After-lesser-bound) where
  abbrev jobs : List Job
  jobs = c.args.self.now.workload.jobs

  abbrev quanta : List ℕ
  quanta = c.args.self.now.quanta

  abbrev s : Set
  s = has c.args.self.now.layer

  abbrev o : Set
  o = has c.args.self.now.above

  abbrev k : ℕ
  k = c.args.self.now.job

  shares : c.args.self.now.workload.utilisations ≡ utilisations_of jobs
  shares = ap (λ (w : Workload). w.utilisations) c.args.self.now.plain

  first : c.run-first.result ≡ first_bound jobs quanta s o k
  first = c.run-first.ensures ∙ bound-found jobs quanta s o k _ s o shares refl refl

  second : c.second_bound-second.result ≡ second_bound jobs quanta s o k
  second =
      let a = c.args in
      let beside = c.remove-neighbours in
      let w = a.self.now.workload in
      let given_by : Bool → ℕ =
      λ b. cond b c.run-first.result
      (one_bound (record { jobs = w.jobs; utilisations = w.utilisations; unassignable = w.unassignable; sought = 0 }) quanta (has (single k)) (has (join a.self.now.above beside.result)) k) in
      elim (ℕ_discrete beside.result 0) [
        | yes z ↦
            c.second_bound-second.ensures ∙ ap given_by (eq-eqb beside.result 0 z)
            ∙ first ∙ sym (second-first jobs k quanta s o (no-neighbours (length jobs) a.self.now.layer k c.args.self.now.placed (sym beside.ensures ∙ z)))
        | no z ↦
            c.second_bound-second.ensures ∙ ap given_by (ne_eqb beside.result 0 z)
            ∙ bound-found jobs quanta (only k) (with_neighbours s o k) k _ (has (single k)) (has (join a.self.now.above beside.result)) shares (only_set k c.args.self.now.placed)
            (ap has (ap (join a.self.now.above) beside.ensures) ∙ with-set a.self.now.layer a.self.now.above k c.args.self.now.placed)
      ]

  is_bound : c.lesser-bound.result ≡ bound jobs quanta s o k
  unfolding bound
  is_bound = c.lesser-bound.ensures ∙ ap₂ lesser first second

  -- It is one of the two that were found.
  one : (c.lesser-bound.result ≡ c.run-first.result) ⊎ (c.lesser-bound.result ≡ c.second_bound-second.result)
  one = ⊎_elim (λ e. inl (is_bound ∙ e ∙ sym first)) (λ e. inr (is_bound ∙ e ∙ sym second)) (one-decides jobs quanta s o k)

pub returns-then-bound-eq0 : goal.returns-then-bound-eq0
returns-then-bound-eq0 c =
    sym (parts_none (jobs (goal.at.returns-then-bound-eq0 c).After-lesser-bound) (quanta (goal.at.returns-then-bound-eq0 c).After-lesser-bound) (s (goal.at.returns-then-bound-eq0 c).After-lesser-bound) (o (goal.at.returns-then-bound-eq0 c).After-lesser-bound) (k (goal.at.returns-then-bound-eq0 c).After-lesser-bound) (sym (is_bound (goal.at.returns-then-bound-eq0 c).After-lesser-bound) ∙ c.if-bound-eq0.true))

pub first_parts-requires : goal.first_parts-requires
first_parts-requires c =
    (omega (arith, c.if-bound-eq0.false), ⊎_elim (λ e. e ∙ first (goal.at.first_parts-requires c).After-lesser-bound) (λ e. omega (arith, c.if-bound-first.true, e, first (goal.at.first_parts-requires c).After-lesser-bound)) (one (goal.at.first_parts-requires c).After-lesser-bound))

pub returns-then-bound-first : goal.returns-then-bound-first
returns-then-bound-first c =
    c.first_parts.ensures
    ∙ sym (parts_first (jobs (goal.at.returns-then-bound-first c).After-lesser-bound) (quanta (goal.at.returns-then-bound-first c).After-lesser-bound) (s (goal.at.returns-then-bound-first c).After-lesser-bound) (o (goal.at.returns-then-bound-first c).After-lesser-bound) (k (goal.at.returns-then-bound-first c).After-lesser-bound) (λ z. c.if-bound-eq0.false (is_bound (goal.at.returns-then-bound-first c).After-lesser-bound ∙ z)) (sym (is_bound (goal.at.returns-then-bound-first c).After-lesser-bound) ∙ ⊎_elim (λ e. e ∙ first (goal.at.returns-then-bound-first c).After-lesser-bound) (λ e. omega (arith, c.if-bound-first.true, e, first (goal.at.returns-then-bound-first c).After-lesser-bound)) (one (goal.at.returns-then-bound-first c).After-lesser-bound)))

pub second_parts-requires : goal.second_parts-requires
second_parts-requires c =
    (omega (arith, c.if-bound-eq0.false), ⊎_elim (λ e. omega (arith, c.if-bound-first.false, e, second (goal.at.second_parts-requires c).After-lesser-bound)) (λ e. e ∙ second (goal.at.second_parts-requires c).After-lesser-bound) (one (goal.at.second_parts-requires c).After-lesser-bound))

pub returns : goal.returns
returns c =
    c.second_parts.ensures
    ∙ sym (parts-second (jobs (goal.at.returns c).After-lesser-bound) (quanta (goal.at.returns c).After-lesser-bound) (s (goal.at.returns c).After-lesser-bound) (o (goal.at.returns c).After-lesser-bound) (k (goal.at.returns c).After-lesser-bound) (λ z. c.if-bound-eq0.false (is_bound (goal.at.returns c).After-lesser-bound ∙ z)) (λ e. omega (arith, c.if-bound-first.false, is_bound (goal.at.returns c).After-lesser-bound, e, first (goal.at.returns c).After-lesser-bound)))
