use mathlib.Core.Path.{◌≡◌, sym, ap, ◌∙◌}
use Rattle.kernel.specs.declared.judge.KernelRule.{KernelRule}
use Rattle.reasons.specs.Reasons.{kernel_record_reason_at}
use Rattle.reasons.proofs.kernels.kernel_record_reason_at.Goals as goal
use Rattle.reasons.proofs.kernels.kernel_record_reason_at.Goals.{Start}

-- What is said where the rule is known.
told : (c : Start) {rule : KernelRule} → let a = c.args in a.rule ≡ rule
    → kernel_record_reason_at rule a.at a.n a.range.low a.range.high a.highest a.job a.kernel ≡ kernel_record_reason_at a.rule a.at a.n a.range.low a.range.high a.highest a.job a.kernel
told c e = let a = c.args in sym (ap (λ (x : KernelRule). kernel_record_reason_at x a.at a.n a.range.low a.range.high a.highest a.job a.kernel) e)

pub returns-in-Id : goal.returns-in-Id
returns-in-Id c = c.reason_of.ensures ∙ told (goal.at.returns-in-Id c).Start c.in-Id.is

pub returns-in-Top : goal.returns-in-Top
returns-in-Top c = c.top_reason.ensures ∙ told (goal.at.returns-in-Top c).Start c.in-Top.is

pub returns-in-Shape : goal.returns-in-Shape
returns-in-Shape c = c.kernel_shape_reason.ensures ∙ told (goal.at.returns-in-Shape c).Start c.in-Shape.is

pub returns-in-Sharing : goal.returns-in-Sharing
returns-in-Sharing c = c.kernel_sharing_reason.ensures ∙ told (goal.at.returns-in-Sharing c).Start c.in-Sharing.is
