-- "Which set of jobs ends up placed is the same under both orders" (02, E7): 01's order of the sets and the order by periods. Assumes nothing.
use Prim.Native.Nat.{ℕ, ◌≤◌, ◌<◌}
use mathlib.Core.Path.{◌≡◌}
use mathlib.Core.List.{List}
use mathlib.Core.Option.{Option}
use lib.ListN.{length}
use Rattle.sets.specs.Sets.{Set, places}
use Rattle.sets.specs.Order.{order}
use Rattle.records.specs.declared.job.Job.{Job}
use Rattle.periods.specs.ByPeriods.{by_periods}
use Rattle.assignment.specs.Takeable.{Permitted}
use Rattle.assignment.specs.Plan.{quanta_for, plan_by, plan, plan_by_number}
use Rattle.assignment.proofs.Serving.{Costs}
use Rattle.assignment.proofs.Taking.{Finds, per-job}
use Rattle.assignment.proofs.Planned.{number-all, periods-all}
use Rattle.assignment.proofs.AnyPlay.{any_order}

module _ (jobs : List Job) (costs : Costs jobs) (few : length jobs ≤ places) where
  -- For any rule on quanta and its search.
  pub either_order : (low high : ℕ) (Permit : List ℕ → Set → Type 0) (find : ℕ → ℕ → Option (List ℕ)) → Finds jobs low high Permit find
      → (plan_by jobs find (by_periods jobs)).placed ≡ (plan_by jobs find order).placed
  either_order low high Permit find F = any_order jobs costs low high Permit find F few (by_periods jobs) order (periods-all jobs) number-all

  -- Of the plan of a list and a range.
  pub both-orders : (low high : ℕ) → 0 < low → low ≤ high → (plan jobs low high).placed ≡ (plan_by_number jobs low high).placed
  unfolding plan plan_by_number
  both-orders low high lp lh = either_order low high (Permitted (length jobs) low high) (quanta_for jobs low high) (per-job jobs costs low high lp lh)
