-- Worked hand-ins with the range 1 to 4: K5, K6 and K7's marker half, the examiners' traps about the test (01), and the refusals of
-- the two entries: one table, one computed statement. Assumes nothing.
use Prim.Native.Nat.{ℕ}
use mathlib.Core.Path.{◌≡◌, refl}
use mathlib.Core.Bool.{Bool, true, false}
use mathlib.Core.List.{List, [], ◌∷◌, ◌++◌, map}
use Rattle.sets.specs.Places.{every, sum, sum_over, count, list_of}
use Rattle.records.specs.Records.{word_bytes, flat, chunks}
use Rattle.records.specs.Refusals.{Answer, refused, given}
use Rattle.records.specs.Jobs.{job_of, times_ok, job_list}
use Rattle.records.proofs.Cases.{row}
use Rattle.configuration.specs.Settings.{setting_bytes}
use Rattle.configuration.specs.Configuration.{placed_level, scheduled, shaped, may_share}
use Rattle.response.specs.Demand.{ceil_div, work, interference, other_quanta, layer_share, demand, least, finish, larger, run, largest_response, bound}
use Rattle.marker.specs.Bounds.{quanta_of, layer_of, above_of, bound_in}
use Rattle.configuration.specs.Blocks.{settings_of}
use Rattle.marker.specs.Marks.{bounds_outcome, mark_outcome}

-- What mark and bounds are to answer, and to leave in the output.
pub record Answers : Type 0 where
  pub marks : Answer Bool × List ℕ
  pub bounds : Answer (Unit {0}) × List ℕ

-- A job block, a configuration block, an output, and the answers.
pub record Case : Type 0 where
  pub jobs : List ℕ
  pub block : List ℕ
  pub output : List ℕ
  pub answers : Answers

pub answered : Case → Answers
answered c = record { marks = mark_outcome c.jobs 1 4 c.block c.output; bounds = bounds_outcome c.jobs 1 4 c.block c.output }

-- The case in which both entries fill an output of 5 bytes for two jobs, and the last byte stays.
filled : List ℕ → List ℕ → Bool → ℕ → ℕ → Case
filled jobs block passed first second =
    let bytes = word_bytes first ++ (word_bytes second ++ (7 ∷ [])) in
    record { jobs = jobs; block = block; output = 9 ∷ 9 ∷ 9 ∷ 9 ∷ 7 ∷ []; answers = record { marks = (given passed, bytes); bounds = (given tt, bytes) } }

-- The case in which an entry refuses, or leaves the bounds of a configuration that is not full.
refuses : List ℕ → List ℕ → List ℕ → ℕ → Answer (Unit {0}) × List ℕ → Case
refuses jobs block output number b = record { jobs = jobs; block = block; output = output; answers = record { marks = (refused number, output); bounds = b } }

pub k2 : List ℕ
k2 = row 1 0 6 8 8 ++ row 2 0 5 22 22

k7 : List ℕ
k7 = row 1 0 6 8 8 ++ row 2 0 5 23 23

-- Both on one level, and each alone on its own.
pub shared : ℕ → ℕ → List ℕ
shared first second = 1 ∷ 2 ∷ 2 ∷ first ∷ 2 ∷ 2 ∷ 2 ∷ second ∷ []

apart : ℕ → ℕ → List ℕ
apart first second = 1 ∷ first ∷ 1 ∷ 0 ∷ 2 ∷ second ∷ 1 ∷ 0 ∷ []

third : List ℕ
third = 1 ∷ 0 ∷ 0 ∷ 0 ∷ 2 ∷ 0 ∷ 0 ∷ 0 ∷ 3 ∷ 3 ∷ 1 ∷ 0 ∷ []

pub cases : List Case
cases =
    -- K2's own answer, K5, K6 and K7
    filled k2 (shared 3 1) true 8 20
    ∷ filled k2 (shared 4 1) false 8 0
    ∷ filled k2 (apart 1 2) false 6 0
    ∷ filled k7 (apart 1 2) true 6 23
    -- the example of E2: the neighbour of the first job has less work than quanta
    ∷ filled (row 1 0 4 20 20 ++ row 2 0 2 20 20) (shared 1 4) true 6 3
    -- K7 with delays of the first job (E4): with 1 the second still has 23, with 2 the first counts a fourth time above it
    ∷ filled (row 1 1 6 8 8 ++ row 2 0 5 23 23) (apart 1 2) true 7 23
    ∷ filled (row 1 2 6 8 8 ++ row 2 0 5 23 23) (apart 1 2) false 8 0
    -- the largest quantum for everyone
    ∷ filled k2 (shared 4 4) false 0 13
    -- the larger number taken for the earlier level, in both senses
    ∷ filled k7 (apart 2 1) false 0 5
    -- a job above counts once per period: three times within 23 ticks, twice within 16
    ∷ filled (row 1 0 6 8 8 ++ row 2 0 4 16 16) (apart 1 2) true 6 16
    -- K9's answer is not full: the jobs not placed count as above the one that is
    ∷ refuses (k2 ++ row 3 0 1 100 100) third (9 ∷ 9 ∷ 9 ∷ 9 ∷ 9 ∷ 9 ∷ []) 11 (given tt, 0 ∷ 0 ∷ 0 ∷ 0 ∷ 0 ∷ 64 ∷ [])
    -- refusal 11 before 12, 12, 10 before 11, 1 before 6
    ∷ refuses (k2 ++ row 3 0 1 100 100) third (9 ∷ 9 ∷ 9 ∷ 9 ∷ 9 ∷ []) 11 (refused 12, 9 ∷ 9 ∷ 9 ∷ 9 ∷ 9 ∷ [])
    ∷ refuses k2 (apart 1 2) (9 ∷ 9 ∷ 9 ∷ []) 12 (refused 12, 9 ∷ 9 ∷ 9 ∷ [])
    ∷ refuses k2 (1 ∷ 0 ∷ 0 ∷ 0 ∷ 2 ∷ 2 ∷ 2 ∷ 1 ∷ []) [] 10 (refused 10, [])
    ∷ refuses [] [] (9 ∷ []) 1 (refused 1, 9 ∷ [])
    ∷ []

pub worked : map answered cases ≡ map (λ c. c.answers) cases
unfolding answered filled refuses k2 k7 shared apart third cases row every sum sum_over count list_of word_bytes flat chunks job_of times_ok setting_bytes placed_level scheduled shaped may_share ceil_div work interference other_quanta layer_share demand least finish larger run largest_response bound bound_in bounds_outcome mark_outcome
worked = refl

-- "In K2, 4 and 4 gives the first job 14."
pub largest-quanta : let settings = settings_of k2 (shared 4 4) in demand (job_list k2) (quanta_of settings) (layer_of settings 2) (above_of settings 2) 0 6 14 ≡ 14
unfolding k2 shared row sum sum_over list_of word_bytes chunks job_of ceil_div work interference other_quanta layer_share demand
largest-quanta = refl
