-- The record of a bound's parts (02, E6), and the outcome of the entry breakdown.
-- Assumes nothing.
use Rattle.std.specs.Prelude.{ℕ, ◌*◌, List, [], ◌∷◌, ◌++◌, length, get_or, drop}
use Rattle.records.specs.Refusals.{Answer, Tests, outcome}
use Rattle.records.specs.Records.{long_of, long_bytes, flat, chunks, written, room_tests}
use Rattle.records.specs.Jobs.{job_list}
use Rattle.records.specs.Calls.{call_tests}
use Rattle.records.specs.declared.job.Job.{Job}
use Rattle.configuration.specs.declared.setting.Setting.{Setting}
use Rattle.configuration.specs.Blocks.{settings_of, record_tests}
use Rattle.response.specs.declared.parts.Parts.{Parts}
use Rattle.parts.specs.Breakdowns.{breakdown_of}

-- ---- the record

-- "22 bytes in that order: one for each of the first two, four for each amount, high byte first."
abbrev pub parts_size : ℕ
parts_size = 22

abbrev pub amounts : Parts → List ℕ
amounts p = p.own ∷ p.share ∷ p.above ∷ p.delay ∷ p.taken ∷ []

unfoldable pub parts_bytes : Parts → List ℕ
parts_bytes p = (p.instance ∷ p.which ∷ []) ++ flat long_bytes (amounts p)

-- The parts in the first bytes of a block, and those of n jobs.
unfoldable pub parts_at_start : List ℕ → Parts
parts_at_start block = record {
  instance = get_or block 0 0;
  which = get_or block 1 0;
  own = long_of (drop 2 block);
  share = long_of (drop 6 block);
  above = long_of (drop 10 block);
  delay = long_of (drop 14 block);
  taken = long_of (drop 18 block);
}

abbrev pub breakdown_in : ℕ → List ℕ → List Parts
breakdown_in n block = chunks parts_size parts_at_start n block

-- ---- the entry

-- Refusals 1 to 10 and 12.
abbrev pub breakdown_tests : List ℕ → ℕ → ℕ → List ℕ → ℕ → Tests
breakdown_tests jobs low high configuration room =
    call_tests jobs low high ++ (record_tests (job_list jobs) low high configuration ++ room_tests (parts_size * length (job_list jobs)) room)

-- The output with the records.
abbrev pub broken_down : List Job → List Setting → List ℕ → List ℕ
broken_down jobs settings output = written parts_size parts_bytes (breakdown_of jobs settings) output

-- The outcome of breakdown: done, and the output at exit.
unfoldable pub breakdown_outcome : List ℕ → ℕ → ℕ → List ℕ → List ℕ → Answer (Unit {0}) × List ℕ
breakdown_outcome jobs low high configuration output =
    outcome (breakdown_tests jobs low high configuration (length output)) tt (broken_down (job_list jobs) (settings_of jobs configuration) output) output
