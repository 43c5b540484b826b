-- The way in: what every entry asks of a job block and a range before anything else, refusals 1, 2, 3, 5 and 6 (01). Assumes nothing.
use Rattle.std.specs.Prelude.{ℕ, Result, Ok, Err, List, ◌++◌}
use Rattle.records.specs.Refusals.{Answer, refused, given, number, Tests, answer, handed}
use Rattle.records.specs.Jobs.{table_tests, block_tests, job_count, job_list, listed}
use Rattle.records.specs.Ranges.{range_of, range_tests}
use Rattle.records.specs.declared.job.Job.{Job}
use Rattle.records.specs.declared.range.Range.{Range}
use Rattle.records.specs.declared.call.Call.{Call}
use Rattle.records.specs.declared.refusal.Refusal.{Refusal}

-- An accepted question: the number of jobs, the list of jobs, and the range.
abbrev pub Asked : Type 0
Asked = ℕ × (List Job × Range)

-- What a call that is handed on asks, and what read_call answers.
abbrev pub asks : Call → Asked
asks call = (call.jobs.count, (listed call.jobs, call.range))

abbrev pub asked : Result Call Refusal → Answer Asked
asked r = handed r asks

-- The answer after a further judgement: the first refusal stays.
abbrev pub judged_by : {A : Type 0} → Result (Unit {0}) Refusal → Answer A → Answer A
judged_by v (refused k) = refused k
judged_by (Ok u) (given a) = given a
judged_by (Err refusal) (given a) = refused (number refusal)

abbrev pub call_tests : List ℕ → ℕ → ℕ → Tests
call_tests jobs low high = block_tests jobs ++ range_tests low high

-- The same of the first n jobs of a table.
abbrev pub question_tests : ℕ → List Job → Range → Tests
question_tests n jobs range = table_tests n jobs ++ range_tests range.low range.high

-- What a job block and a range ask, and the answer of read_call.
abbrev pub question : List ℕ → ℕ → ℕ → Asked
question jobs low high = (job_count jobs, (job_list jobs, range_of low high))

abbrev pub read_call : List ℕ → ℕ → ℕ → Answer Asked
read_call jobs low high = answer (call_tests jobs low high) (question jobs low high)
