use borrow.Author.Rules.{rules}
use mathlib.Core.Path.{◌≡◌, ◌∙◌}
use lib.ListN.{length}
use Rattle.records.specs.Limits.{most_jobs}
use Rattle.sets.specs.Sets.{has}
use Rattle.search.proofs.BothBounds.{first-only}
use Rattle.search.proofs.workload.Workload.run.Goals as goal

pub returns : goal.returns
returns c =
    let a = c.args in
    let size : length a.self.jobs ≡ most_jobs = search rules in
    c.bound.ensures
    ∙ first-only (record { jobs = a.self.jobs; utilisations = a.self.utilisations; unassignable = c.single.result; sought = a.sought }) a.quanta (has a.layer) (has a.above) a.job
    c.single.ensures size
