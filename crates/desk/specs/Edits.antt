-- The desk's edit of one job in a lent table (01, "Blocks"): which refusal applies first, and the table that it leaves. Assumes nothing.
use Rattle.std.specs.Prelude.{ℕ, min, List, [], ◌∷◌, ◌++◌, ltb, length, set, take, drop}
use Rattle.records.specs.Refusals.{Answer, Tests, outcome, answer, verdict}
use Rattle.records.specs.Jobs.{job_at, times_ok, count_tests}
use Rattle.records.specs.declared.job.Job.{Job}
use Rattle.desk.specs.declared.held.Edited.{Edited}

-- "This call checks only refusals 1 (on the table's count), 4 and 5; entries it doesn't edit are not judged."
abbrev pub edit_tests : ℕ → ℕ → ℕ → ℕ → ℕ → Tests
edit_tests count place cost period deadline = count_tests count ++ ((ltb place count, 4) ∷ (times_ok cost period deadline, 5) ∷ [])

-- What the tests come to.
abbrev pub judged : ℕ → ℕ → ℕ → ℕ → ℕ → Answer (Unit {0})
judged count place cost period deadline = answer (edit_tests count place cost period deadline) tt

-- "C, T and D of that entry change, its id and the other entries stay"; an edit keeps J too (02, E4).
abbrev pub with_times : Job → ℕ → ℕ → ℕ → Job
with_times job cost period deadline = record { id = job.id; delay = job.delay; cost = cost; period = period; deadline = deadline }

abbrev pub edited : List Job → ℕ → ℕ → ℕ → ℕ → List Job
edited jobs place cost period deadline = set jobs place (with_times (job_at jobs place) cost period deadline)

-- The outcome of edit: done, and the table at exit.
unfoldable pub edit_outcome : List Job → ℕ → ℕ → ℕ → ℕ → Answer (Unit {0}) × List Job
edit_outcome jobs place cost period deadline =
    outcome (edit_tests (length jobs) place cost period deadline) tt (edited jobs place cost period deadline) jobs

-- ---- a table held by value

-- Its entries: two more than a call accepts, so that refusal 1 can be met.
abbrev pub roomy : ℕ
roomy = 10

abbrev pub held_answer : Edited → Answer (Unit {0}) × List Job
held_answer r = (verdict r.answer, r.jobs)

-- The first n jobs are lent to edit; the others stay.
unfoldable pub edit_first : List Job → ℕ → ℕ → ℕ → ℕ → ℕ → Answer (Unit {0}) × List Job
edit_first jobs n place cost period deadline =
    let lent = edit_outcome (take n jobs) place cost period deadline in
    (lent.0, lent.1 ++ drop n jobs)

abbrev pub edit_held : List Job → ℕ → ℕ → ℕ → ℕ → ℕ → Answer (Unit {0}) × List Job
edit_held jobs n place cost period deadline = edit_first jobs (min n roomy) place cost period deadline
