use Rattle.writing.proofs.Writing.{row-next}
use Rattle.explaining.specs.Explanations.{explain_row}
use Rattle.explaining.proofs.put_jobs.Goals as goal

pub loop-k-preserved : goal.loop-k-preserved
loop-k-preserved c =
    let a = c.args in
    row-next 1300 (explain_row a.jobs a.settings a.parts a.bounds) _ c.loop-k.invariant c.put_job-at.ensures
