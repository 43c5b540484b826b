-- What keys are made of, by a response-time test. Assumes nothing.
use Rattle.std.specs.Prelude.{ℕ, ◌≡◌, List}
use Rattle.records.specs.declared.job.Job.{Job}
use Rattle.response.specs.Demand.{ResponseTest}
use Rattle.marker.specs.Bounds.{bound_in, bound_at}
use Rattle.assignment.specs.Plan.{plan_with, plan}

-- The plan of a list and a range is the one by a test, and each bound of a job in a list of settings is the one by another.
pub record KeysBy (plan_test mark_test : ResponseTest) (jobs : List Job) (low high : ℕ) : Type 0 where
  pub plans : plan jobs low high ≡ plan_with plan_test jobs low high
  pub marks : bound_at jobs ≡ bound_in mark_test
