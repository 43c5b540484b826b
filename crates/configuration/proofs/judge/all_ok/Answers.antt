use Prim.Native.Nat.{min}
use mathlib.Core.Path.{◌≡◌, refl, sym, ap₂, ◌∙◌}
use lib.Dec.{eqb}
use lib.ListN.{length}
use Rattle.sets.proofs.Places.{every-failing}
use Rattle.records.specs.Limits.{most_jobs}
use Rattle.configuration.specs.Configuration.{setting_ok}
use Rattle.configuration.proofs.SettingTests.{ok-table}
use borrow.Author.Rules.{rules}
use Rattle.configuration.proofs.judge.all_ok.Goals as goal

pub returns : goal.returns
returns c =
    let a = c.args in
    let count = min a.call.jobs.count most_jobs in
    let size : length a.call.jobs.table ≡ most_jobs = search rules in
    ap₂ eqb c.first_faulty.ensures c.at_most.ensures
    ∙ sym (every-failing (setting_ok a.rule count a.call.jobs.table a.call.range.low a.call.range.high a.settings) count)
    ∙ ok-table a.call.jobs.table a.settings most_jobs a.call.jobs.count count size refl a.rule a.call.range.low a.call.range.high
