-- The job block and the job table: what a record means, which refusal applies first, what is read and what is written. Assumes nothing.
use Rattle.std.specs.Prelude.{ℕ, Result, Ok, Err, zero, suc, ◌*◌, ◌/◌, ◌%◌, List, [], ◌∷◌, ◌++◌, Bool, ◌&&◌, ◌≡◌, length, get_or, take, ltb, leb, eqb}
use Rattle.sets.specs.Places.{every}
use Rattle.records.specs.Limits.{longest_period, longest_deadline, most_jobs}
use Rattle.records.specs.Refusals.{Answer, given, Tests, outcome, turned, handed, Accepts}
use Rattle.records.specs.Records.{word, word_bytes, flat, chunks, table, written, room_tests}
use Rattle.records.specs.declared.job.Job.{Job}
use Rattle.records.specs.declared.judge.JobRule.{JobRule}
use Rattle.records.specs.declared.judge.JobRule.TheVariants.{Id, Order, Times}
use Rattle.records.specs.declared.block.JobTable.{JobTable}
use Rattle.records.specs.declared.refusal.Refusal.{Refusal}

-- ---- one record

-- The size of a job record in bytes.
abbrev pub job_size : ℕ
job_size = 8

-- The job in the first bytes of a block: id, delay (02, E4: J; the field's release jitter), cost, period, deadline.
unfoldable pub job_of : List ℕ → Job
job_of block =
    record {
      id = get_or block 0 0;
      delay = get_or block 1 0;
      cost = word (get_or block 2 0) (get_or block 3 0);
      period = word (get_or block 4 0) (get_or block 5 0);
      deadline = word (get_or block 6 0) (get_or block 7 0);
    }

-- The bytes of a job.
unfoldable pub job_bytes : Job → List ℕ
job_bytes job = job.id ∷ job.delay ∷ (word_bytes job.cost ++ (word_bytes job.period ++ word_bytes job.deadline))

-- An entry of a table that holds no job, and the job at a place of a list.
abbrev pub blank_job : Job
blank_job = record { id = 0; delay = 0; cost = 0; period = 0; deadline = 0 }

abbrev pub job_at : List Job → ℕ → Job
job_at jobs i = get_or jobs i blank_job

-- Each job's delay is 0, as in a list from before delays.
abbrev pub NoDelay : List Job → Type 0
NoDelay jobs = (i : ℕ) → (job_at jobs i).delay ≡ 0

-- ---- refusals 2, 3 and 5

-- Refusal 5 does not apply: C is not 0, above its D or above its T, and neither T nor D is above 60,000 (01, 02's E1).
unfoldable pub times_ok : ℕ → ℕ → ℕ → Bool
times_ok cost period deadline =
    leb 1 cost && leb cost deadline && leb cost period && leb period longest_period && leb deadline longest_deadline

-- What a rule asks of a job, `before` being the id of the job before it.
abbrev pub job_ok : JobRule → ℕ → Job → Bool
job_ok Id before job = leb 1 job.id
job_ok Order before job = ltb before job.id
job_ok Times before job = times_ok job.cost job.period job.deadline

-- The id of the job before place i; 0 before the first job, whose id refusal 2 keeps above 0.
abbrev pub id_before : List Job → ℕ → ℕ
id_before jobs zero = 0
id_before jobs (suc i) = (job_at jobs i).id

-- The rule holds of the job at place i.
abbrev pub job_ok_at : JobRule → List Job → ℕ → Bool
job_ok_at rule jobs i = job_ok rule (id_before jobs i) (job_at jobs i)

-- Refusals 2, 3 and 5 of the first n jobs of a list: "Each number is sought through all records before the next is tried".
abbrev pub job_tests : ℕ → List Job → Tests
job_tests n jobs = (every (job_ok_at Id jobs) n, 2) ∷ (every (job_ok_at Order jobs) n, 3) ∷ (every (job_ok_at Times jobs) n, 5) ∷ []

-- Refusal 1 of a table of n jobs.
abbrev pub count_tests : ℕ → Tests
count_tests n = (leb 1 n, 1) ∷ (leb n most_jobs, 1) ∷ []

-- Refusals 1, 2, 3 and 5 of the first n jobs of a table.
abbrev pub table_tests : ℕ → List Job → Tests
table_tests n jobs = count_tests n ++ job_tests n jobs

-- An accepted list of jobs.
abbrev pub AcceptedJobs : List Job → Type 0
AcceptedJobs jobs = Accepts (table_tests (length jobs) jobs)

-- ---- a new job

-- The tests of one job's numbers.
abbrev pub new_job_tests : ℕ → ℕ → ℕ → ℕ → Tests
new_job_tests id cost period deadline = (leb 1 id, 2) ∷ (times_ok cost period deadline, 5) ∷ []

-- What Job::new answers, in 01's numbers and values.
abbrev pub new_job_answer : Result Job Refusal → Answer Job
new_job_answer r = handed r (λ job. job)

-- ---- reading

-- Refusal 1 of a job block of so many bytes.
abbrev pub size_tests : ℕ → Tests
size_tests size = (leb 1 size, 1) ∷ (leb size (most_jobs * job_size), 1) ∷ (eqb (size % job_size) 0, 1) ∷ []

-- The number of jobs of a block, and its jobs.
abbrev pub job_count : List ℕ → ℕ
job_count block = length block / job_size

abbrev pub jobs_in : ℕ → List ℕ → List Job
jobs_in n block = chunks job_size job_of n block

abbrev pub job_list : List ℕ → List Job
job_list block = jobs_in (job_count block) block

-- Refusals 1, 2, 3 and 5 of a job block.
abbrev pub block_tests : List ℕ → Tests
block_tests block = size_tests (length block) ++ job_tests (job_count block) (job_list block)

-- A table of jobs, blank past the list.
abbrev pub job_table : List Job → List Job
job_table jobs = table most_jobs blank_job jobs

-- The jobs of a table: as many as it counts.
abbrev pub listed : JobTable → List Job
listed jobs = take jobs.count jobs.table

-- What read_jobs answers, in 01's numbers and values: the number of jobs; and the table, blank where there is none.
abbrev pub jobs_outcome : Result JobTable Refusal → Answer ℕ × List Job
jobs_outcome (Ok jobs) = (given jobs.count, jobs.table)
jobs_outcome (Err refusal) = turned refusal (job_table [])

-- The outcome of read_jobs: the number of jobs, and the table beside it.
unfoldable pub read_jobs : List ℕ → Answer ℕ × List Job
read_jobs block = outcome (block_tests block) (job_count block) (job_table (job_list block)) (job_table [])

-- ---- writing

-- The bytes of a list of jobs.
abbrev pub bytes_of : List Job → List ℕ
bytes_of jobs = flat job_bytes jobs

-- Refusals 1, 2, 3, 5 and 12 of a table of n jobs and an output of `room` bytes.
abbrev pub write_tests : ℕ → List Job → ℕ → Tests
write_tests n jobs room = table_tests n jobs ++ room_tests (job_size * n) room

-- The outcome of write_jobs: the number of bytes, and the output at exit.
unfoldable pub write_jobs : ℕ → List Job → List ℕ → Answer ℕ × List ℕ
write_jobs n jobs output = outcome (write_tests n jobs (length output)) (job_size * n) (written job_size job_bytes (take n jobs) output) output
