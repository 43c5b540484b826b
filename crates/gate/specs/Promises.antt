-- What the planner and the marker promise for a box with any limits, the start gate's and the mats' being two: the outcome, how it stands to
-- the mats' (02, E8), and of the planner demand 3. Assumes nothing.
use Rattle.std.specs.Prelude.{ℕ, ◌≡◌, Bool, List}
use Rattle.records.specs.Refusals.{Answer, refused, given}
use Rattle.limits.specs.declared.Limits.{Limits}
use Rattle.limits.specs.Limited.{Limited}
use Rattle.marker.specs.Marks.{mark_outcome}
use Rattle.planner.specs.Plans.{Outcome, plan_outcome, HeldIn}
use Rattle.gate.specs.Outcomes.{plan_within, mark_within}

-- The planner: its outcome, how that stands to the outcome of the mats' planner for the same call, and demand 3 of what every accepted call
-- gives.
pub record PlanWithinPromise (limits : Limits) (jobs : List ℕ) (low high : ℕ) (configuration bounds : List ℕ) (got : Outcome) : Type 0 where
  pub is : got ≡ plan_within limits jobs low high configuration bounds
  pub limited : Limited limits jobs low high got (plan_outcome jobs low high configuration bounds) (refused 15, (configuration, bounds))
  pub guarantee : (told : ℕ × ℕ) → got.0 ≡ given told → HeldIn jobs low high told got.1

-- The marker: its outcome, and how that stands to the outcome of the mats' marker for the same call.
pub record MarkWithinPromise (limits : Limits) (jobs : List ℕ) (low high : ℕ) (configuration output : List ℕ) (got : Answer Bool × List ℕ) : Type 0 where
  pub is : got ≡ mark_within limits jobs low high configuration output
  pub limited : Limited limits jobs low high got (mark_outcome jobs low high configuration output) (refused 15, output)
