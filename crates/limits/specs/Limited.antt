-- What a call of an entry with limits comes to, beside the same call of the mats' entry: "Within its limits the gate gets exactly the mats'
-- answer" (02, E8), for any limits. Assumes nothing.
use Rattle.std.specs.Prelude.{ℕ, ◌≤◌, ◌≡◌, List}
use Rattle.records.specs.Refusals.{Accepts}
use Rattle.records.specs.Jobs.{job_count}
use Rattle.records.specs.Calls.{call_tests}
use Rattle.limits.specs.declared.Limits.{Limits}

-- A call of n jobs and a range up to `high` is within limits.
pub record Within (limits : Limits) (n high : ℕ) : Type 0 where
  pub jobs : n ≤ limits.jobs
  pub quantum : high ≤ limits.quantum

-- Of a job block and a range: `got` is what the entry with limits comes to, `mats` what the mats' entry comes to, both whole, with what is
-- lent at exit, and `turned` is refusal 15 with what is lent as it was.
pub record Limited (limits : Limits) (jobs : List ℕ) (low high : ℕ) {Outcome : Type 0} (got mats turned : Outcome) : Type 0 where
  -- Within the limits it is the mats' outcome, whether that is an answer or a refusal; and so it is where refusals 1 to 6 turn the call down.
  pub within : Within limits (job_count jobs) high → got ≡ mats
  pub before : (Accepts (call_tests jobs low high) → ⊥) → got ≡ mats
  -- A call that refusals 1 to 6 let by, and the limits do not, gets 15.
  pub beyond : Accepts (call_tests jobs low high) → (Within limits (job_count jobs) high → ⊥) → got ≡ turned
