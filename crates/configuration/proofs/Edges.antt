-- Edges of the configuration block and the order of refusals 5 to 12, through the readers and the writer: one table, one computed
-- statement. Assumes nothing.
use Prim.Native.Nat.{ℕ}
use mathlib.Core.Path.{◌≡◌, refl}
use mathlib.Core.List.{List, [], ◌∷◌, ◌++◌, map}
use Rattle.sets.specs.Places.{every, sum, sum_over, count}
use Rattle.records.specs.Records.{word_bytes, flat, chunks}
use Rattle.records.specs.Refusals.{Answer, refused, given}
use Rattle.records.specs.Jobs.{job_of, job_list, times_ok}
use Rattle.records.proofs.Cases.{row}
use Rattle.configuration.specs.Settings.{setting_bytes, settings_in}
use Rattle.configuration.specs.Configuration.{placed_level, scheduled, shaped, may_share}
use Rattle.configuration.specs.Blocks.{read_configuration, read_full, write_configuration}

-- A case: a job block, a range, a configuration block, and what the reader is to answer, or the one for full configurations; or a table of
-- settings with its count, the length of the output, and what the writer is to answer.
pub data Case : Type 0 where
  read : List ℕ → ℕ → ℕ → List ℕ → Answer ℕ → Case
  full_read : List ℕ → ℕ → ℕ → List ℕ → Answer ℕ → Case
  written : List ℕ → ℕ → ℕ → List ℕ → ℕ → List ℕ → Answer ℕ → List ℕ → Case

-- What the reader answers, and what the writer answers with the output at exit.
pub answered : Case → Answer ℕ × List ℕ
answered (read jobs low high block a) = ((read_configuration jobs low high block).0, [])
answered (full_read jobs low high block a) = ((read_full (job_list jobs) low high block).0, [])
answered (written jobs low high block entries output a after) = write_configuration jobs low high entries (settings_in 3 block) output

pub due : Case → Answer ℕ × List ℕ
due (read jobs low high block a) = (a, [])
due (full_read jobs low high block a) = (a, [])
due (written jobs low high block entries output a after) = (a, after)

-- Three jobs, and a configuration of them: the first alone on level 3, the others on level 1.
pub three : List ℕ
three = row 1 0 1 9 9 ++ (row 2 0 1 9 9 ++ row 4 0 1 9 9)

good : List ℕ
good = 1 ∷ 3 ∷ 1 ∷ 0 ∷ 2 ∷ 1 ∷ 2 ∷ 1 ∷ 4 ∷ 1 ∷ 2 ∷ 64 ∷ []

pub cases : List Case
cases =
    read three 1 64 good (given 3)
    -- some of the jobs, or all, not placed
    ∷ read three 1 64 (1 ∷ 0 ∷ 0 ∷ 0 ∷ 2 ∷ 3 ∷ 1 ∷ 0 ∷ 4 ∷ 0 ∷ 0 ∷ 0 ∷ []) (given 3)
    ∷ read three 1 64 (1 ∷ 0 ∷ 0 ∷ 0 ∷ 2 ∷ 0 ∷ 0 ∷ 0 ∷ 4 ∷ 0 ∷ 0 ∷ 0 ∷ []) (given 3)
    -- refusal 6 before 7, and 5 before 6
    ∷ read three 1 65 [] (refused 6)
    ∷ read (row 1 0 0 9 9) 1 65 [] (refused 5)
    -- refusal 7
    ∷ read three 1 64 [] (refused 7)
    ∷ read three 1 64 (good ++ (1 ∷ [])) (refused 7)
    -- refusal 8, in the last record, before 9 in the first
    ∷ read three 1 64 (1 ∷ 4 ∷ 1 ∷ 0 ∷ 2 ∷ 1 ∷ 1 ∷ 0 ∷ 3 ∷ 2 ∷ 1 ∷ 0 ∷ []) (refused 8)
    -- refusal 9: a level past the number of jobs, a policy past 2, a quantum out of range or where none is due, and before 10
    ∷ read three 1 64 (1 ∷ 4 ∷ 1 ∷ 0 ∷ 2 ∷ 1 ∷ 1 ∷ 0 ∷ 4 ∷ 2 ∷ 1 ∷ 0 ∷ []) (refused 9)
    ∷ read three 1 64 (1 ∷ 3 ∷ 3 ∷ 0 ∷ 2 ∷ 1 ∷ 1 ∷ 0 ∷ 4 ∷ 2 ∷ 1 ∷ 0 ∷ []) (refused 9)
    ∷ read three 2 4 (1 ∷ 3 ∷ 1 ∷ 0 ∷ 2 ∷ 1 ∷ 2 ∷ 1 ∷ 4 ∷ 1 ∷ 2 ∷ 4 ∷ []) (refused 9)
    ∷ read three 2 4 (1 ∷ 3 ∷ 1 ∷ 0 ∷ 2 ∷ 1 ∷ 2 ∷ 2 ∷ 4 ∷ 1 ∷ 2 ∷ 5 ∷ []) (refused 9)
    ∷ read three 1 4 (1 ∷ 3 ∷ 1 ∷ 1 ∷ 2 ∷ 1 ∷ 1 ∷ 0 ∷ 4 ∷ 2 ∷ 1 ∷ 0 ∷ []) (refused 9)
    ∷ read three 1 4 (1 ∷ 0 ∷ 0 ∷ 1 ∷ 2 ∷ 1 ∷ 1 ∷ 0 ∷ 4 ∷ 2 ∷ 1 ∷ 0 ∷ []) (refused 9)
    ∷ read three 1 4 (1 ∷ 1 ∷ 0 ∷ 0 ∷ 2 ∷ 1 ∷ 1 ∷ 0 ∷ 4 ∷ 2 ∷ 1 ∷ 0 ∷ []) (refused 9)
    ∷ read three 1 4 (1 ∷ 1 ∷ 1 ∷ 0 ∷ 2 ∷ 1 ∷ 1 ∷ 0 ∷ 4 ∷ 0 ∷ 1 ∷ 0 ∷ []) (refused 9)
    -- refusal 10
    ∷ read three 1 4 (1 ∷ 1 ∷ 1 ∷ 0 ∷ 2 ∷ 1 ∷ 1 ∷ 0 ∷ 4 ∷ 2 ∷ 1 ∷ 0 ∷ []) (refused 10)
    ∷ read three 1 4 (1 ∷ 1 ∷ 2 ∷ 1 ∷ 2 ∷ 2 ∷ 1 ∷ 0 ∷ 4 ∷ 3 ∷ 1 ∷ 0 ∷ []) (refused 10)
    ∷ read three 1 4 (1 ∷ 1 ∷ 2 ∷ 1 ∷ 2 ∷ 1 ∷ 1 ∷ 0 ∷ 4 ∷ 3 ∷ 1 ∷ 0 ∷ []) (refused 10)
    -- refusal 11, after 10 and after 7
    ∷ full_read three 1 64 good (given 3)
    ∷ full_read three 1 64 (1 ∷ 0 ∷ 0 ∷ 0 ∷ 2 ∷ 1 ∷ 1 ∷ 0 ∷ 4 ∷ 2 ∷ 1 ∷ 0 ∷ []) (refused 11)
    ∷ full_read three 1 64 (1 ∷ 2 ∷ 1 ∷ 0 ∷ 2 ∷ 1 ∷ 1 ∷ 0 ∷ 4 ∷ 0 ∷ 0 ∷ 0 ∷ []) (refused 11)
    ∷ full_read three 1 64 (1 ∷ 0 ∷ 0 ∷ 0 ∷ 2 ∷ 1 ∷ 1 ∷ 0 ∷ 4 ∷ 1 ∷ 1 ∷ 0 ∷ []) (refused 10)
    ∷ full_read three 1 64 (1 ∷ 0 ∷ 0 ∷ 0 ∷ 2 ∷ 1 ∷ 1 ∷ 0 ∷ []) (refused 7)
    -- the writer: the bytes past the need stay, and a refusal leaves all
    ∷ written three 1 64 good 3 (9 ∷ 9 ∷ 9 ∷ 9 ∷ 9 ∷ 9 ∷ 9 ∷ 9 ∷ 9 ∷ 9 ∷ 9 ∷ 9 ∷ 7 ∷ 8 ∷ []) (given 12) (good ++ (7 ∷ 8 ∷ []))
    ∷ written three 1 64 good 2 (9 ∷ []) (refused 7) (9 ∷ [])
    ∷ written three 1 64 good 3 (9 ∷ 9 ∷ 9 ∷ 9 ∷ 9 ∷ 9 ∷ 9 ∷ 9 ∷ 9 ∷ 9 ∷ 9 ∷ []) (refused 12) (9 ∷ 9 ∷ 9 ∷ 9 ∷ 9 ∷ 9 ∷ 9 ∷ 9 ∷ 9 ∷ 9 ∷ 9 ∷ [])
    ∷ []

pub edges : map answered cases ≡ map due cases
unfolding row answered due three good cases every sum sum_over count word_bytes flat chunks job_of times_ok setting_bytes placed_level scheduled shaped may_share read_configuration read_full write_configuration
edges = refl
