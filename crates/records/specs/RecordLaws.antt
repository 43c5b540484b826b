-- What the record traits ask of jobs and of numbers of two bytes: how long their bytes are, and that nothing past them is looked at.
-- Assumes nothing.
use Prim.Native.Nat.{ℕ, ◌≤◌, ◌<◌}
use mathlib.Core.Path.{◌≡◌, refl}
use mathlib.Core.List.{List}
use native.Mathlib.Omega.{arith}
use lib.ListN.{length, get_or, take}
use lib.Seq.{get_or-take}
use Rattle.records.specs.Records.{word_bytes}
use Rattle.records.specs.Jobs.{job_size, job_of, job_bytes}
use Rattle.records.specs.declared.job.Job.{Job}

pub word-width : (x : ℕ) → length (word_bytes x) ≡ 2
unfolding word_bytes
word-width x = refl

pub job-width : (job : Job) → length (job_bytes job) ≡ job_size
unfolding job_bytes word_bytes
job-width job = refl

pub job-own : (block : List ℕ) → job_size ≤ length block → job_of (take job_size block) ≡ job_of block
unfolding job_of
job-own block h =
    let same : (i : ℕ) → i < job_size → get_or (take job_size block) i 0 ≡ get_or block i 0 = λ i l. get_or-take job_size block i 0 l in
    rw (
      same 0 (omega arith),
      same 1 (omega arith),
      same 2 (omega arith),
      same 3 (omega arith),
      same 4 (omega arith),
      same 5 (omega arith),
      same 6 (omega arith),
      same 7 (omega arith),
    )
    refl
