-- One job record: its width, and its round trips. Assumes nothing.
use Prim.Native.Nat.{ℕ, suc, ◌+◌, ◌*◌, ◌≤◌, ◌<◌}
use mathlib.Core.Path.{◌≡◌}
use mathlib.Core.List.{List, ◌++◌}
use native.Mathlib.Omega.{arith}
use lib.ListN.{length, get_or, take, drop, length-drop}
use lib.Seq.{get_or-drop}
use Rattle.records.specs.Records.{word_bytes, AllBytes}
use Rattle.records.specs.Jobs.{job_size, job_of, job_bytes}
use Rattle.records.specs.declared.job.Job.{Job}
use Rattle.records.proofs.FixedWidth.{word_back, word-high, word_low, spell}

-- What was written is read back.
pub job-back : (job : Job) (s : List ℕ) → job_of (job_bytes job ++ s) ≡ job
unfolding job_of job_bytes word_bytes
job-back job s = simp word_back

-- What is known of n records of a block that is read: they are there, and all are bytes.
pub record Known (n : ℕ) (s : List ℕ) : Type 0 where
  pub room : job_size * n ≤ length s
  pub bytes : AllBytes s

-- What was read is written again as it stood.
pub job-again : (n : ℕ) (s : List ℕ) → Known (suc n) s → (job_bytes (job_of s) ≡ take job_size s) × Known n (drop job_size s)
unfolding job_bytes job_of word_bytes
job-again n s K =
    let long : job_size ≤ length s = omega (arith, K.room) in
    let byte : (i : ℕ) → get_or s i 0 < 256 = K.bytes in (
      rw (spell job_size 0 s long) (simp (word-high, word_low, byte)),
      record {
        room = simp length-drop (omega (arith, K.room));
        bytes = λ i. rw get_or-drop (K.bytes (job_size + i));
      },
    )
