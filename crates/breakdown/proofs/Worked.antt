-- Worked breakdowns to the byte: K2's key, K5 with its bound of 0, E2's example, equal bounds, delayed neighbours, jobs not placed,
-- instances past 0, a delay of 255, and the entry's refusals from 5 on with their order: one table, one computed statement. Assumes nothing.
use Prim.Native.Nat.{ℕ}
use mathlib.Core.Path.{◌≡◌, refl}
use mathlib.Core.List.{List, [], ◌∷◌, ◌++◌, map}
use lib.ListN.{replicate}
use Rattle.sets.specs.Places.{every, sum, sum_over, count, list_of}
use Rattle.records.specs.Records.{word_bytes, long_bytes, flat, chunks}
use Rattle.records.specs.Refusals.{Answer, refused, given}
use Rattle.records.specs.Jobs.{job_of, times_ok}
use Rattle.records.proofs.Cases.{row}
use Rattle.configuration.specs.Configuration.{placed_level, scheduled, shaped, may_share}
use Rattle.response.specs.Demand.{ceil_div, work, interference, other_quanta, layer_share, demand, least, finish, larger, run, largest_response, bound}
use Rattle.response.specs.Breakdown.{first_parts, second_parts, parts}
use Rattle.parts.specs.Breakdowns.{parts_in}
use Rattle.breakdown.specs.Breakdowns.{parts_bytes, breakdown_outcome}

-- A job block, the highest quantum of a range from 1 on, a configuration block, an output, and the outcome.
pub record Case : Type 0 where
  pub jobs : List ℕ
  pub high : ℕ
  pub block : List ℕ
  pub output : List ℕ
  pub answer : Answer (Unit {0}) × List ℕ

pub answered : Case → Answer (Unit {0}) × List ℕ
answered c = breakdown_outcome c.jobs 1 c.high c.block c.output

-- The bytes of a record whose amounts are below 256.
record_of : ℕ → ℕ → ℕ → ℕ → ℕ → ℕ → ℕ → List ℕ
record_of instance which own share above delay taken =
    instance ∷ which ∷ 0 ∷ 0 ∷ 0 ∷ own ∷ 0 ∷ 0 ∷ 0 ∷ share ∷ 0 ∷ 0 ∷ 0 ∷ above ∷ 0 ∷ 0 ∷ 0 ∷ delay ∷ 0 ∷ 0 ∷ 0 ∷ taken ∷ []

zeros : List ℕ
zeros = record_of 0 0 0 0 0 0 0

-- An output with a byte more than two records need.
room : List ℕ
room = replicate 45 9

breaks : List ℕ → List ℕ → List ℕ → List ℕ → Case
breaks jobs block first second = record { jobs = jobs; high = 4; block = block; output = room; answer = (given tt, first ++ (second ++ (9 ∷ []))) }

refuses : List ℕ → ℕ → List ℕ → List ℕ → ℕ → Case
refuses jobs high block output number = record { jobs = jobs; high = high; block = block; output = output; answer = (refused number, output) }

k2 : List ℕ
k2 = row 1 0 6 8 8 ++ row 2 0 5 22 22

-- Both on one level, each alone on its own, and the first not placed.
shared : ℕ → ℕ → List ℕ
shared first second = 1 ∷ 1 ∷ 2 ∷ first ∷ 2 ∷ 1 ∷ 2 ∷ second ∷ []

apart : List ℕ
apart = 1 ∷ 1 ∷ 1 ∷ 0 ∷ 2 ∷ 2 ∷ 1 ∷ 0 ∷ []

partial : List ℕ
partial = 1 ∷ 0 ∷ 0 ∷ 0 ∷ 2 ∷ 2 ∷ 1 ∷ 0 ∷ []

pub cases : List Case
cases =
    -- K2's key, and K5: a bound of 0
    breaks k2 (shared 3 1) (record_of 0 1 6 2 0 0 0) (record_of 0 1 5 15 0 0 0)
    ∷ breaks k2 (shared 4 1) (record_of 0 1 6 2 0 0 0) zeros
    -- E2's example: the second bound decides for the first job
    ∷ breaks (row 1 0 4 20 20 ++ row 2 0 2 20 20) (shared 1 4) (record_of 0 2 4 2 0 0 0) (record_of 0 1 2 1 0 0 0)
    -- equal bounds with delays; the second bound with a delayed neighbour, at instance 1
    ∷ breaks (row 1 1 1 3 7 ++ row 2 2 3 6 13) (shared 4 4) (record_of 0 1 1 4 0 1 0) (record_of 0 2 3 2 0 2 0)
    ∷ breaks (row 1 0 1 2 6 ++ row 2 2 2 5 13) (shared 4 4) (record_of 1 2 2 4 0 0 2) (record_of 0 2 2 2 0 2 0)
    -- the first bound at instance 1 for the first job: two cycles of its 4 ticks of own work
    ∷ breaks (row 1 0 2 4 8 ++ row 2 0 2 3 6) (shared 3 3) (record_of 1 1 4 6 0 0 4) zeros
    -- one above the other, a job not placed and one below it
    ∷ breaks k2 apart (record_of 0 1 6 0 0 0 0) zeros
    ∷ breaks (row 1 0 6 8 8 ++ row 2 0 5 23 23) apart (record_of 0 1 6 0 0 0 0) (record_of 0 1 5 0 18 0 0)
    ∷ breaks (row 1 0 6 8 8 ++ row 2 0 5 23 23) partial zeros (record_of 0 1 5 0 18 0 0)
    -- amounts of two bytes at instance 4, and a delay of 255
    ∷ breaks (row 1 0 26 70 70 ++ row 2 0 62 100 118) apart (record_of 0 1 26 0 0 0 0)
    (4 ∷ 1 ∷ 0 ∷ 0 ∷ 1 ∷ 54 ∷ 0 ∷ 0 ∷ 0 ∷ 0 ∷ 0 ∷ 0 ∷ 0 ∷ 208 ∷ 0 ∷ 0 ∷ 0 ∷ 0 ∷ 0 ∷ 0 ∷ 1 ∷ 144 ∷ [])
    ∷ breaks (row 1 0 1 9 9 ++ row 2 255 1 300 300) apart (record_of 0 1 1 0 0 0 0) (record_of 0 1 1 0 1 255 0)
    -- 5 before 6, 6 before 7, 7 before 12, 8 before 9, 9 before 10, 10 before 12, 12 with one byte less than the need
    ∷ refuses (row 1 0 0 8 8 ++ row 2 0 5 22 22) 65 [] [] 5
    ∷ refuses k2 65 [] [] 6
    ∷ refuses k2 4 [] [] 7
    ∷ refuses k2 4 (3 ∷ 3 ∷ 1 ∷ 0 ∷ 2 ∷ 2 ∷ 1 ∷ 0 ∷ []) room 8
    ∷ refuses k2 4 (1 ∷ 3 ∷ 1 ∷ 0 ∷ 2 ∷ 2 ∷ 2 ∷ 1 ∷ []) room 9
    ∷ refuses k2 4 (1 ∷ 1 ∷ 1 ∷ 0 ∷ 2 ∷ 1 ∷ 1 ∷ 0 ∷ []) [] 10
    ∷ refuses k2 4 apart (replicate 43 9) 12
    ∷ []

pub worked : map answered cases ≡ map (λ c. c.answer) cases
unfolding answered record_of zeros room breaks refuses k2 shared apart partial cases row every sum sum_over count list_of word_bytes long_bytes flat chunks job_of times_ok placed_level scheduled shaped may_share ceil_div work interference other_quanta layer_share demand least finish larger run largest_response bound first_parts second_parts parts parts_in parts_bytes breakdown_outcome
worked = refl
