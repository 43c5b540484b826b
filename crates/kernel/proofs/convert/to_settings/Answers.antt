use mathlib.Core.Path.{◌≡◌, refl, ◌∙◌}
use native.Mathlib.Omega.{arith}
use lib.ListN.{length}
use borrow.Author.Rules.{rules}
use Rattle.records.specs.Limits.{most_jobs}
use Rattle.records.proofs.Mapped.{table-next, table-all}
use Rattle.configuration.specs.Settings.{blank_setting}
use Rattle.kernel.specs.KernelRecords.{to_setting}
use Rattle.kernel.proofs.convert.to_settings.Goals as goal
use Rattle.kernel.proofs.convert.to_settings.Goals.{Start}

size : (c : Start) → length c.args.kernels ≡ most_jobs
size c = search rules

pub loop-i-init : goal.loop-i-init
loop-i-init c = refl

pub loop-i-preserved : goal.loop-i-preserved
loop-i-preserved c =
    table-next (to_setting c.args.highest) blank_setting c.args.kernels most_jobs (size (goal.at.loop-i-preserved c).Start) c.loop-i.i c.loop-i.settings c.to_setting.result _ (omega (arith, c.loop-i-test.true, c.at_most-count.ensures)) c.loop-i.invariant c.to_setting.ensures

pub returns : goal.returns
returns c =
    c.loop-i.invariant ∙ table-all (to_setting c.args.highest) blank_setting c.args.kernels most_jobs (size (goal.at.returns c).Start) c.args.n c.at_most-count.result c.loop-i.i c.at_most-count.ensures (omega arith)
