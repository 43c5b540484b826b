use mathlib.Core.Path.{refl}
use Rattle.records.specs.Jobs.{job_of}
use Rattle.records.proofs.job.JobFromRecordJobSIZE.from_bytes.Goals as goal

pub returns : goal.returns
unfolding job_of
returns c = rw (c.from_be_bytes.ensures, c.from_be_bytes-2.ensures, c.from_be_bytes-3.ensures) refl
