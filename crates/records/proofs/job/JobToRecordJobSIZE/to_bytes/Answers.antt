use Prim.Native.Nat.{◌/◌, ◌%◌}
use mathlib.Core.Path.{◌≡◌, refl}
use native.Mathlib.Omega.{arith}
use Rattle.records.specs.Records.{word_bytes}
use Rattle.records.specs.Jobs.{job_bytes}
use Rattle.records.proofs.job.JobToRecordJobSIZE.to_bytes.Goals as goal

pub returns : goal.returns
unfolding job_bytes word_bytes
returns c =
    let job = c.args.self in
    let cost : job.cost / 256 % 256 ≡ job.cost / 256 = omega arith in
    let period : job.period / 256 % 256 ≡ job.period / 256 = omega arith in
    let deadline : job.deadline / 256 % 256 ≡ job.deadline / 256 = omega arith in
    rw (c.to_be_bytes.ensures, c.to_be_bytes-2.ensures, c.to_be_bytes-3.ensures, cost, period, deadline) refl
