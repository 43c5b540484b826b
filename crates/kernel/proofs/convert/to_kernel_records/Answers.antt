use mathlib.Core.Path.{◌≡◌, refl, ◌∙◌}
use native.Mathlib.Omega.{arith}
use lib.ListN.{length}
use borrow.Author.Rules.{rules}
use Rattle.records.specs.Limits.{most_jobs}
use Rattle.records.proofs.Mapped.{table-next, table-all}
use Rattle.kernel.specs.KernelRecords.{to_kernel_record, blank_kernel}
use Rattle.kernel.proofs.convert.to_kernel_records.Goals as goal
use Rattle.kernel.proofs.convert.to_kernel_records.Goals.{Start}

size : (c : Start) → length c.args.settings ≡ most_jobs
size c = search rules

pub loop-i-init : goal.loop-i-init
loop-i-init c = refl

pub loop-i-preserved : goal.loop-i-preserved
loop-i-preserved c =
    table-next (to_kernel_record c.args.highest) blank_kernel c.args.settings most_jobs (size (goal.at.loop-i-preserved c).Start) c.loop-i.i c.loop-i.kernels c.to_kernel_record.result _ (omega (arith, c.loop-i-test.true, c.at_most-count.ensures)) c.loop-i.invariant c.to_kernel_record.ensures

pub returns : goal.returns
returns c =
    c.loop-i.invariant ∙ table-all (to_kernel_record c.args.highest) blank_kernel c.args.settings most_jobs (size (goal.at.returns c).Start) c.args.n c.at_most-count.result c.loop-i.i c.at_most-count.ensures (omega arith)
