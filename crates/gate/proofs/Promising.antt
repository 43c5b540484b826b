-- What the planner and the marker promise for a box with limits follows from their outcomes, by what is said once of limits and by what the
-- mats' planner promises. Assumes nothing.
use Prim.Native.Nat.{ℕ}
use mathlib.Core.Path.{◌≡◌, sym, ap, subst, ◌∙◌}
use mathlib.Core.Bool.{Bool}
use mathlib.Core.List.{List}
use lib.ListN.{length}
use Rattle.records.specs.Refusals.{Answer, refused, given}
use Rattle.records.specs.Jobs.{job_list}
use Rattle.configuration.specs.Blocks.{settings_of}
use Rattle.limits.specs.declared.Limits.{Limits}
use Rattle.limits.specs.Limited.{Limited}
use Rattle.limits.proofs.Limiting.{limited, answered-within}
use Rattle.marker.specs.Bounds.{passes}
use Rattle.marker.specs.Marks.{marked, mark_hand_in_tests, mark_outcome}
use Rattle.assignment.specs.Plan.{Plan, plan}
use Rattle.planner.specs.Plans.{Outcome, output_tests, values, written_by, plan_outcome, Promise}
use Rattle.planner.proofs.Holding.{promise}
use Rattle.gate.specs.Outcomes.{plan_within, mark_within}
use Rattle.gate.specs.Promises.{PlanWithinPromise, MarkWithinPromise}

module _ (limits : Limits) (jobs : List ℕ) (low high : ℕ) (configuration bounds : List ℕ) where
  abbrev p : Plan
  p = plan (job_list jobs) low high

  beside-plan : Limited limits jobs low high (plan_within limits jobs low high configuration bounds) (plan_outcome jobs low high configuration bounds) (refused 15, (configuration, bounds))
  unfolding plan_within plan_outcome
  beside-plan = limited limits jobs low high (output_tests (job_list jobs) (length configuration) (length bounds)) (values p) (written_by p configuration bounds) (configuration, bounds)

  -- A call that is answered has the mats' outcome, and what the mats' planner promises of it.
  pub as-mats : (got : Outcome) → got ≡ plan_within limits jobs low high configuration bounds → (told : ℕ × ℕ) → got.0 ≡ given told → Promise jobs low high configuration bounds got
  unfolding plan_within
  as-mats got is told e =
      let inside = answered-within limits jobs low high (output_tests (job_list jobs) (length configuration) (length bounds)) (values p) (written_by p configuration bounds) (configuration, bounds) told (ap (λ (x : Outcome). x.0) (sym is) ∙ e) in
      promise jobs low high configuration bounds got (is ∙ beside-plan.within inside)

  pub plan-promise : (got : Outcome) → got ≡ plan_within limits jobs low high configuration bounds → PlanWithinPromise limits jobs low high configuration bounds got
  plan-promise got is = record {
    is = is;
    limited = subst (λ (x : Outcome). Limited limits jobs low high x (plan_outcome jobs low high configuration bounds) (refused 15, (configuration, bounds))) (sym is) beside-plan;
    guarantee = λ told e. (as-mats got is told e).guarantee told e;
  }

module _ (limits : Limits) (jobs : List ℕ) (low high : ℕ) (configuration output : List ℕ) where
  beside-mark : Limited limits jobs low high (mark_within limits jobs low high configuration output) (mark_outcome jobs low high configuration output) (refused 15, output)
  unfolding mark_within mark_outcome
  beside-mark =
      let settings = settings_of jobs configuration in
      limited limits jobs low high (mark_hand_in_tests (job_list jobs) low high configuration (length output)) (passes (job_list jobs) settings) (marked (job_list jobs) settings output) output

  pub mark-promise : (got : Answer Bool × List ℕ) → got ≡ mark_within limits jobs low high configuration output → MarkWithinPromise limits jobs low high configuration output got
  mark-promise got is = record {
    is = is;
    limited = subst (λ (x : Answer Bool × List ℕ). Limited limits jobs low high x (mark_outcome jobs low high configuration output) (refused 15, output)) (sym is) beside-mark;
  }
