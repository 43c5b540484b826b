-- The key program's text (01, "Worked exam lists", at its end). Assumes nothing.
use Rattle.std.specs.Prelude.{ℕ, ◌+◌, ◌*◌, ◌≡◌, Bool, List, [], ◌∷◌, ◌++◌, eqb, length, get_or}
use Rattle.sets.specs.Places.{count}
use Rattle.records.specs.Limits.{most_jobs}
use Rattle.records.specs.Refusals.{Answer, refused, given, answer, Accepts}
use Rattle.records.specs.Jobs.{job_size, job_count, job_list}
use Rattle.records.specs.Calls.{call_tests}
use Rattle.configuration.specs.declared.setting.Setting.{Setting}
use Rattle.configuration.specs.Settings.{setting_at}
use Rattle.configuration.specs.Configuration.{is_placed}
use Rattle.assignment.specs.Plan.{Plan, plan}
use Rattle.planner.specs.Plans.{PlanHeld}
use Rattle.writing.specs.Templates.{rows_to, filled}

-- `% % % % %`: "a line per job (id, level, policy, quantum, bound, one space between)"; a job left over has four zeros after its id. "Each
-- line ends in one line feed."
abbrev pub job_line : List Setting → List ℕ → ℕ → List ℕ
job_line settings bounds k =
    let s = setting_at settings k in
    filled (37 ∷ 32 ∷ 37 ∷ 32 ∷ 37 ∷ 32 ∷ 37 ∷ 32 ∷ 37 ∷ 10 ∷ []) (s.id ∷ s.level ∷ s.policy ∷ s.quantum ∷ get_or bounds k 0 ∷ [])

-- `placed % of %`: "a last line `placed m of n`".
abbrev pub last_line : ℕ → ℕ → List ℕ
last_line m n = filled (112 ∷ 108 ∷ 97 ∷ 99 ∷ 101 ∷ 100 ∷ 32 ∷ 37 ∷ 32 ∷ 111 ∷ 102 ∷ 32 ∷ 37 ∷ 10 ∷ []) (m ∷ n ∷ [])

-- The key of a plan for n jobs, "m being the number of jobs placed".
unfoldable pub key_text : ℕ → Plan → List ℕ
key_text n p = rows_to (job_line p.settings p.bounds) n ++ last_line (count n (is_placed p.settings)) n

-- `refused %`: "only one line, `refused`, a space and the number".
abbrev pub refused_text : ℕ → List ℕ
refused_text k = filled (114 ∷ 101 ∷ 102 ∷ 117 ∷ 115 ∷ 101 ∷ 100 ∷ 32 ∷ 37 ∷ 10 ∷ []) (k ∷ [])

abbrev pub key_or : Answer (Unit {0}) → List ℕ → List ℕ
key_or (refused k) text = refused_text k
key_or (given v) text = text

-- The text for a job block and a range, with their refusals.
unfoldable pub key_of : List ℕ → ℕ → ℕ → List ℕ
key_of jobs low high = key_or (answer (call_tests jobs low high) tt) (key_text (length (job_list jobs)) (plan (job_list jobs) low high))

-- Whether each job of an accepted call is placed.
unfoldable pub key_answer : List ℕ → ℕ → ℕ → Answer Bool
key_answer jobs low high =
    let n = length (job_list jobs) in
    answer (call_tests jobs low high) (eqb (count n (is_placed (plan (job_list jobs) low high).settings)) n)

-- What key promises of the text that it writes: it is the key, and where the call is accepted it is that of a plan of which demand 3 is
-- said (planner/specs/Plans): its configuration block is read and marked as the text tells.
pub record KeyPromise (jobs : List ℕ) (low high : ℕ) (text : List ℕ) : Type 0 where
  pub is : text ≡ key_of jobs low high
  pub guarantee : Accepts (call_tests jobs low high) → (p : Plan) × (text ≡ key_text (job_count jobs) p) × PlanHeld jobs low high p

-- ---- the key program

-- "The key program reads a job block from standard input, range 1 to 4."
abbrev pub program_key : List ℕ → List ℕ
program_key input = key_of input 1 4

-- How much of its input it reads: one byte more than the longest job block, so that a longer one shows (`read-enough`, proofs/ProgramInput).
abbrev pub program_reads : ℕ
program_reads = job_size * most_jobs + 1

-- ---- the key by parts

-- The key as it is made of a table of settings and one of bounds, m jobs of n being placed.
unfoldable pub table_text : List Setting → List ℕ → ℕ → ℕ → List ℕ
table_text settings bounds m n = rows_to (job_line settings bounds) n ++ last_line m n
