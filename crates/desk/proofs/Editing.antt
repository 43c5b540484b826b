-- What the answer to an edit says of the place, and of the table that is left. Assumes nothing.
use Prim.Native.Nat.{ℕ, ◌≤◌, ◌<◌}
use mathlib.Core.Path.{◌≡◌}
use mathlib.Core.List.{List}
use lib.ListN.{length}
use borrow.Author.Tests.{leb-true, ltb-true}
use Rattle.records.specs.Limits.{most_jobs}
use Rattle.records.specs.Refusals.{given, refused, Tests}
use Rattle.records.specs.declared.job.Job.{Job}
use Rattle.records.proofs.Outcomes.{accepted, refuses-alike, gives-alike}
use Rattle.desk.specs.Edits.{edit_tests, judged, edited, edit_outcome}

-- The table has at most eight jobs, and the place is one of them.
pub record Within (count place : ℕ) : Type 0 where
  pub few : count ≤ most_jobs
  pub within : place < count

pub edit-within : (count place cost period deadline : ℕ) → judged count place cost period deadline ≡ given tt → Within count place
edit-within count place cost period deadline e =
    let ok = accepted tt tt tt (edit_tests count place cost period deadline) tt e in
    record { few = leb-true _ _ ok.1.0; within = ltb-true _ _ ok.1.1.0 }

-- The outcome, by the answer.
module _ (jobs : List Job) (place cost period deadline : ℕ) where
  abbrev tests : Tests
  tests = edit_tests (length jobs) place cost period deadline

  pub edit-done : judged (length jobs) place cost period deadline ≡ given tt → edit_outcome jobs place cost period deadline ≡ (given tt, edited jobs place cost period deadline)
  unfolding edit_outcome
  edit-done e = gives-alike tests tt tt tt tt (edited jobs place cost period deadline) jobs tt e

  pub edit-refused : (k : ℕ) → judged (length jobs) place cost period deadline ≡ refused k → edit_outcome jobs place cost period deadline ≡ (refused k, jobs)
  unfolding edit_outcome
  edit-refused k e = refuses-alike tests tt tt tt tt (edited jobs place cost period deadline) jobs k e
