-- K2's key as kernel records and back, priorities at the ends of a byte, and each refusal of both entries from 5 on with its place in the
-- order: a table for each entry, and one computed statement for each. Assumes nothing.
use Prim.Native.Nat.{ℕ}
use mathlib.Core.Path.{◌≡◌, refl}
use mathlib.Core.List.{List, [], ◌∷◌, ◌++◌, map}
use Rattle.sets.specs.Places.{every, sum, sum_over, count}
use Rattle.records.specs.Records.{word_bytes, flat, chunks}
use Rattle.records.specs.Refusals.{Answer, refused, given}
use Rattle.records.specs.Jobs.{job_of, times_ok}
use Rattle.records.proofs.Cases.{row}
use Rattle.configuration.specs.Settings.{setting_bytes}
use Rattle.configuration.specs.Configuration.{placed_level, scheduled, shaped, may_share}
use Rattle.kernel.specs.KernelRecords.{kernel_bytes}
use Rattle.kernel.specs.KernelConfiguration.{on_top}
use Rattle.kernel.specs.Conversions.{to_kernel_outcome, from_kernel_outcome}

-- A job block, the highest quantum of a range from 1 on, the lowest and the highest priority, a block to convert, an output, and the outcome.
pub record Case : Type 0 where
  pub jobs : List ℕ
  pub high : ℕ
  pub lowest : ℕ
  pub highest : ℕ
  pub block : List ℕ
  pub output : List ℕ
  pub answer : Answer (Unit {0}) × List ℕ

pub there : Case → Answer (Unit {0}) × List ℕ
there c = to_kernel_outcome c.jobs 1 c.high (record { 0 = c.lowest }) (record { 0 = c.highest }) c.block c.output

pub back : Case → Answer (Unit {0}) × List ℕ
back c = from_kernel_outcome c.jobs 1 c.high (record { 0 = c.lowest }) (record { 0 = c.highest }) c.block c.output

pub k2 : List ℕ
k2 = row 1 0 6 8 8 ++ row 2 0 5 22 22

-- An output with a byte more than two records need.
pub room : List ℕ
room = 9 ∷ 9 ∷ 9 ∷ 9 ∷ 9 ∷ 9 ∷ 9 ∷ 9 ∷ 7 ∷ []

-- For K2's jobs and the range 1 to 4.
pub gives : ℕ → ℕ → List ℕ → List ℕ → Case
gives lowest highest block bytes =
    record { jobs = k2; high = 4; lowest = lowest; highest = highest; block = block; output = room; answer = (given tt, bytes ++ (7 ∷ [])) }

pub refuses : ℕ → ℕ → List ℕ → List ℕ → ℕ → Case
refuses lowest highest block output number =
    record { jobs = k2; high = 4; lowest = lowest; highest = highest; block = block; output = output; answer = (refused number, output) }

-- K2's key, on level 2, and each job alone on a level; a job that is not placed.
pub key : List ℕ
key = 1 ∷ 2 ∷ 2 ∷ 3 ∷ 2 ∷ 2 ∷ 2 ∷ 1 ∷ []

pub apart : List ℕ
apart = 1 ∷ 1 ∷ 1 ∷ 0 ∷ 2 ∷ 2 ∷ 1 ∷ 0 ∷ []

pub partial : List ℕ
partial = 1 ∷ 0 ∷ 0 ∷ 0 ∷ 2 ∷ 2 ∷ 1 ∷ 0 ∷ []

-- Two kernel records with policies and priorities, and quantum 0.
pub kernels : ℕ → ℕ → ℕ → ℕ → List ℕ
kernels policy first policy' second = 1 ∷ policy ∷ first ∷ 0 ∷ 2 ∷ policy' ∷ second ∷ 0 ∷ []

-- Eight jobs on levels 1 to 8, and on the priorities 7 to 0.
pub eight : List ℕ
eight = row 1 0 1 99 99 ++ (row 2 0 1 99 99 ++ (row 3 0 1 99 99 ++ (row 4 0 1 99 99 ++ (row 5 0 1 99 99 ++ (row 6 0 1 99 99 ++ (row 7 0 1 99 99 ++ row 8 0 1 99 99))))))

pub ladder : List ℕ
ladder =
    1 ∷ 1 ∷ 1 ∷ 0 ∷ 2 ∷ 2 ∷ 1 ∷ 0 ∷ 3 ∷ 3 ∷ 1 ∷ 0 ∷ 4 ∷ 4 ∷ 1 ∷ 0
    ∷ 5 ∷ 5 ∷ 1 ∷ 0 ∷ 6 ∷ 6 ∷ 1 ∷ 0 ∷ 7 ∷ 7 ∷ 1 ∷ 0 ∷ 8 ∷ 8 ∷ 1 ∷ 0 ∷ []

pub descent : List ℕ
descent =
    1 ∷ 1 ∷ 7 ∷ 0 ∷ 2 ∷ 1 ∷ 6 ∷ 0 ∷ 3 ∷ 1 ∷ 5 ∷ 0 ∷ 4 ∷ 1 ∷ 4 ∷ 0
    ∷ 5 ∷ 1 ∷ 3 ∷ 0 ∷ 6 ∷ 1 ∷ 2 ∷ 0 ∷ 7 ∷ 1 ∷ 1 ∷ 0 ∷ 8 ∷ 1 ∷ 0 ∷ 0 ∷ []

pub eight-jobs : List ℕ → List ℕ → Case
eight-jobs block bytes = record { jobs = eight; high = 4; lowest = 0; highest = 7; block = block; output = ladder; answer = (given tt, bytes) }

-- A cost of 0, with a range that refusal 6 turns down.
pub no-cost : Case
no-cost = record { jobs = row 1 0 0 8 8 ++ row 2 0 5 22 22; high = 65; lowest = 1; highest = 99; block = []; output = []; answer = (refused 5, []) }

-- A range that refusal 6 turns down, with priorities that 13 turns down.
pub wide-range : Case
wide-range = record { jobs = k2; high = 65; lowest = 2; highest = 1; block = []; output = []; answer = (refused 6, []) }

pub cases-there : List Case
cases-there =
    gives 1 99 key (1 ∷ 2 ∷ 98 ∷ 3 ∷ 2 ∷ 2 ∷ 98 ∷ 1 ∷ [])
    ∷ gives 1 99 apart (kernels 1 99 1 98)
    -- exactly n values; priority 0; 256 values; eight jobs down to priority 0
    ∷ gives 98 99 apart (kernels 1 99 1 98)
    ∷ gives 0 1 apart (kernels 1 1 1 0)
    ∷ gives 0 255 apart (kernels 1 255 1 254)
    ∷ eight-jobs ladder descent
    -- 13 for a lowest above the highest and for one value fewer than n
    ∷ refuses 2 1 apart room 13
    ∷ refuses 99 99 apart room 13
    -- 5 before 6, 6 before 13, 13 before 7, 7 before 12, 8 before 9, 9 before 10, 10 before 11, 11 before 12, 12
    ∷ no-cost
    ∷ wide-range
    ∷ refuses 1 0 [] [] 13
    ∷ refuses 1 99 [] [] 7
    ∷ refuses 1 99 (3 ∷ 3 ∷ 1 ∷ 0 ∷ 2 ∷ 2 ∷ 1 ∷ 0 ∷ []) room 8
    ∷ refuses 1 99 (1 ∷ 3 ∷ 1 ∷ 0 ∷ 2 ∷ 2 ∷ 2 ∷ 1 ∷ []) room 9
    ∷ refuses 1 99 (1 ∷ 0 ∷ 0 ∷ 0 ∷ 2 ∷ 2 ∷ 2 ∷ 1 ∷ []) [] 10
    ∷ refuses 1 99 partial [] 11
    ∷ refuses 1 99 apart (9 ∷ []) 12
    ∷ []

pub cases-back : List Case
cases-back =
    gives 1 99 (1 ∷ 2 ∷ 98 ∷ 3 ∷ 2 ∷ 2 ∷ 98 ∷ 1 ∷ []) key
    ∷ gives 98 99 (kernels 1 99 1 98) apart
    ∷ gives 0 1 (kernels 1 1 1 0) apart
    ∷ gives 0 255 (kernels 1 255 1 254) apart
    ∷ eight-jobs descent ladder
    -- 14 below the top n though above the lowest, above the highest, and for policies 3 and 7
    ∷ refuses 1 99 (kernels 1 99 1 97) room 14
    ∷ refuses 1 99 (kernels 1 100 1 98) room 14
    ∷ refuses 1 99 (kernels 3 97 1 98) room 14
    ∷ refuses 1 99 (kernels 1 99 7 50) room 14
    -- policy 0 gets 9 whatever its priority, policy 3 among the top n too; beside a record outside the top n it is 14
    ∷ refuses 1 99 (kernels 0 0 1 98) room 9
    ∷ refuses 1 99 (kernels 0 99 1 98) room 9
    ∷ refuses 1 99 (kernels 3 99 1 98) room 9
    ∷ refuses 1 99 (kernels 0 0 1 97) room 14
    -- 5 before 6, 6 before 13, 13 before 7, 7 before 12, 8 before 14, 14 before 9, 9 before 10, 10 before 12, 12
    ∷ no-cost
    ∷ wide-range
    ∷ refuses 1 0 [] [] 13
    ∷ refuses 99 99 [] [] 13
    ∷ refuses 1 99 [] [] 7
    ∷ refuses 1 99 (3 ∷ 1 ∷ 0 ∷ 0 ∷ 2 ∷ 1 ∷ 98 ∷ 0 ∷ []) room 8
    ∷ refuses 1 99 (1 ∷ 1 ∷ 99 ∷ 4 ∷ 2 ∷ 1 ∷ 97 ∷ 0 ∷ []) room 14
    ∷ refuses 1 99 (1 ∷ 1 ∷ 99 ∷ 4 ∷ 2 ∷ 1 ∷ 99 ∷ 0 ∷ []) room 9
    ∷ refuses 1 99 (kernels 1 99 1 99) [] 10
    ∷ refuses 1 99 (1 ∷ 2 ∷ 99 ∷ 1 ∷ 2 ∷ 1 ∷ 98 ∷ 0 ∷ []) room 10
    ∷ refuses 1 99 (kernels 1 99 1 98) [] 12
    ∷ []

pub worked-there : map there cases-there ≡ map (λ c. c.answer) cases-there
unfolding there k2 room gives refuses key apart partial kernels eight ladder descent eight-jobs no-cost wide-range cases-there row every sum sum_over count word_bytes flat chunks job_of times_ok setting_bytes kernel_bytes placed_level scheduled shaped may_share to_kernel_outcome
worked-there = refl

pub worked-back : map back cases-back ≡ map (λ c. c.answer) cases-back
unfolding back k2 room gives refuses key apart kernels eight ladder descent eight-jobs no-cost wide-range cases-back row every sum sum_over count word_bytes flat chunks job_of times_ok setting_bytes kernel_bytes scheduled may_share on_top from_kernel_outcome
worked-back = refl
