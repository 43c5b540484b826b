-- The same jobs are left in whatever order sets are tried, and in whatever play. Assumes nothing.
use Prim.Native.Nat.{ℕ, ◌≤◌}
use mathlib.Core.Path.{◌≡◌, sym, ap, ◌∙◌}
use mathlib.Core.List.{List}
use mathlib.Core.Option.{Option}
use lib.ListN.{length}
use Rattle.sets.specs.Sets.{Set, places, has, rest, first_jobs, Sub}
use Rattle.sets.proofs.Members.{has_same}
use Rattle.records.specs.declared.job.Job.{Job}
use Rattle.assignment.specs.Takeable.{Served, TakeableBy}
use Rattle.assignment.specs.Plan.{start, plan_from, plan_by}
use Rattle.assignment.specs.Guarantee.{left_by}
use Rattle.assignment.proofs.Serving.{Costs}
use Rattle.assignment.proofs.Taking.{Finds, served-drop}
use Rattle.assignment.proofs.Optimal.{Play, Stuck, same_end}
use Rattle.assignment.proofs.Plays.{AllSets}
use Rattle.assignment.proofs.Planned.{end-good, end-play, left_is}

module _
    (jobs : List Job) (costs : Costs jobs) (low high : ℕ) (Permit : List ℕ → Set → Type 0) (find : ℕ → ℕ → Option (List ℕ)) (F : Finds jobs low high Permit find)
    (few : length jobs ≤ places)
  where
    abbrev n : ℕ
    n = length jobs

    abbrev Take : Set → Set → Type 0
    Take = TakeableBy jobs Permit

    abbrev left : List ℕ → ℕ
    left sequence = (plan_from jobs find sequence n (start jobs)).left

    remains : (e e' : Set) → Stuck Take e → Play n Take (has (start jobs).left) e → Play n Take (has (start jobs).left) e' → Sub n e e'
    remains e e' st p p' = same_end n (List ℕ) Permit (Served jobs) F.drop (served-drop jobs costs) (has (start jobs).left) e e' st p p'

    -- Two orders of all sets.
    pub any_order : (sequence sequence' : List ℕ) → AllSets sequence → AllSets sequence' → (plan_by jobs find sequence).placed ≡ (plan_by jobs find sequence').placed
    any_order sequence sequence' A A' =
        let x = end-play jobs costs low high Permit find F few sequence A in
        let y = end-play jobs costs low high Permit find F few sequence' A' in
        let a = has (left sequence) in
        let b = has (left sequence') in
        ap (rest (first_jobs n))
        (has_same n (left sequence) (left sequence')
        (end-good jobs costs low high Permit find F few sequence A).less (end-good jobs costs low high Permit find F few sequence' A').less
        (remains a b x.1 x.0 y.0) (remains b a y.1 y.0 x.0))

    -- A play that ends where nothing can be taken leaves the jobs that the planner leaves.
    pub any-play : (sequence : List ℕ) → AllSets sequence → (e : Set) → Play n Take (has (start jobs).left) e → Stuck Take e
        → Sub n e (left_by (plan_by jobs find sequence)) × Sub n (left_by (plan_by jobs find sequence)) e
    any-play sequence A e p st =
        let x = end-play jobs costs low high Permit find F few sequence A in
        let a = has (left sequence) in
        let is = left_is jobs costs low high Permit find F few sequence A in
        (λ i l y. is i l ∙ remains e a st p x.0 i l y, λ i l y. remains a e x.1 x.0 p i l (sym (is i l) ∙ y))
