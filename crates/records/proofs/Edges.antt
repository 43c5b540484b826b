-- The edges of 01 that concern job blocks and ranges, and two faults at once: one table, one computed statement. Assumes nothing.
use Prim.Native.Nat.{ℕ}
use mathlib.Core.Path.{◌≡◌, refl}
use mathlib.Core.List.{List, [], ◌∷◌, ◌++◌, map}
use Rattle.sets.specs.Places.{every}
use Rattle.records.specs.Records.{word_bytes, chunks}
use Rattle.records.specs.Refusals.{Answer, refused, given, answer}
use Rattle.records.specs.Jobs.{job_of, times_ok, read_jobs}
use Rattle.records.specs.Ranges.{range_tests}
use Rattle.records.proofs.Cases.{row}

-- A case: what a call was asked, in 01's numbers and values, and what it is to answer; a range is answered by 0.
pub data Case : Type 0 where
  block : List ℕ → Answer ℕ → Case
  range : ℕ → ℕ → Answer ℕ → Case

pub answered : Case → Answer ℕ
answered (block s a) = (read_jobs s).0
answered (range low high a) = answer (range_tests low high) 0

pub due : Case → Answer ℕ
due (block s a) = a
due (range low high a) = a

eight : List ℕ
eight =
    row 1 0 1 9 9 ++ (row 2 0 1 9 9 ++ (row 3 0 1 9 9 ++ (row 4 0 1 9 9 ++ (row 5 0 1 9 9 ++ (row 6 0 1 9 9 ++ (row 7 0 1 9 9 ++ row 255 0 1 9 9))))))

pub cases : List Case
cases =
    -- the longest period
    block (row 1 0 1 60000 60000) (given 1)
    ∷ block (row 1 0 1 60001 60000) (refused 5)
    -- C, D and T
    ∷ block (row 1 0 5 9 5) (given 1)
    ∷ block (row 1 0 6 9 5) (refused 5)
    ∷ block (row 1 0 5 9 9) (given 1)
    ∷ block (row 1 0 0 9 9) (refused 5)
    -- a deadline past the period, and the longest
    ∷ block (row 1 0 5 9 10) (given 1)
    ∷ block (row 1 0 1 1 60000) (given 1)
    ∷ block (row 1 0 1 1 60001) (refused 5)
    ∷ block (row 1 0 9 9 10) (given 1)
    ∷ block (row 1 0 10 9 10) (refused 5)
    -- the size of the block
    ∷ block [] (refused 1)
    ∷ block (1 ∷ 0 ∷ 0 ∷ 1 ∷ 0 ∷ 9 ∷ 0 ∷ []) (refused 1)
    ∷ block eight (given 8)
    ∷ block (eight ++ row 9 0 1 9 9) (refused 1)
    -- ids
    ∷ block (row 3 0 1 9 9 ++ row 3 0 1 9 9) (refused 3)
    ∷ block (row 3 0 1 9 9 ++ row 2 0 1 9 9) (refused 3)
    ∷ block (row 0 0 1 9 9) (refused 2)
    -- the delay, of which refusal 2 says nothing
    ∷ block (row 1 7 1 9 9) (given 1)
    ∷ block (row 1 255 1 9 9) (given 1)
    ∷ block (row 0 7 1 9 9) (refused 2)
    -- two faults at once: in one record, and in different ones
    ∷ block (row 0 0 0 9 9) (refused 2)
    ∷ block (row 3 0 0 9 9 ++ row 3 0 1 9 9) (refused 3)
    ∷ block (row 3 0 1 60001 9 ++ (row 2 0 1 9 9 ++ row 4 1 1 9 9)) (refused 3)
    ∷ block (row 3 0 1 9 9 ++ (row 2 0 1 9 9 ++ row 0 0 1 9 9)) (refused 2)
    ∷ block (row 0 0 0 9 9 ++ (1 ∷ [])) (refused 1)
    -- the range of quanta
    ∷ range 1 64 (given 0)
    ∷ range 64 64 (given 0)
    ∷ range 1 65 (refused 6)
    ∷ range 0 4 (refused 6)
    ∷ range 5 4 (refused 6)
    ∷ []

pub edges : map answered cases ≡ map due cases
unfolding row answered due eight cases every word_bytes chunks job_of times_ok read_jobs
edges = refl
