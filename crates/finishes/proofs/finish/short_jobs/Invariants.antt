use lib.Dec.{leb}
use Rattle.sets.specs.Sets.{Collects}
use Rattle.records.specs.Jobs.{job_at}
use Rattle.finishes.proofs.finish.short_jobs.Given as goal

abbrev pub invariant-loop-i : goal.invariant-loop-i
invariant-loop-i l = Collects l.i (λ k. leb (job_at l.fn.jobs k).period l.longest) l.set
