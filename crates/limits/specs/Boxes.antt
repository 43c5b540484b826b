-- The limits of a box, and refusal 15 for any limits: "The start gate runs a smaller box" (02, E8). Assumes nothing.
use Rattle.std.specs.Prelude.{ℕ, Bool, cond, List, [], ◌∷◌, ◌++◌, leb}
use Rattle.records.specs.Limits.{longest_quantum, most_jobs}
use Rattle.records.specs.Refusals.{Answer, Tests, answer}
use Rattle.records.specs.Jobs.{job_count}
use Rattle.records.specs.Calls.{Asked, call_tests, question}
use Rattle.limits.specs.declared.Limits.{Limits}

-- "The mats keep eight and 64."
abbrev pub mats_limits : Limits
mats_limits = record { jobs = most_jobs; quantum = longest_quantum }

-- "At most four jobs and a highest quantum of 16."
abbrev pub gate_limits : Limits
gate_limits = record { jobs = 4; quantum = 16 }

-- Those of the start gate, or of the mats.
abbrev pub box_limits : Bool → Limits
box_limits gate = cond gate gate_limits mats_limits

-- Refusal 15, of n jobs and a range up to `high`: more jobs than the limits have, or a highest quantum above theirs. The gate's are "more
-- than four jobs or a highest quantum above 16".
abbrev pub limit_tests : Limits → ℕ → ℕ → Tests
limit_tests limits n high = (leb n limits.jobs, 15) ∷ (leb high limits.quantum, 15) ∷ []

-- ---- the way in with limits: a job block and a range

-- "15, after 6": refusals 1, 2, 3, 5, 6 and 15.
abbrev pub limited_tests : Limits → List ℕ → ℕ → ℕ → Tests
limited_tests limits jobs low high = call_tests jobs low high ++ limit_tests limits (job_count jobs) high

-- The answer of read_call.
abbrev pub read_limited_call : Limits → List ℕ → ℕ → ℕ → Answer Asked
read_limited_call limits jobs low high = answer (limited_tests limits jobs low high) (question jobs low high)
