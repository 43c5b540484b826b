use mathlib.Core.Path.{◌≡◌, sym, ap, ◌∙◌}
use Rattle.kernel.specs.KernelConfiguration.{kernel_ok}
use Rattle.kernel.specs.declared.judge.KernelRule.{KernelRule}
use Rattle.kernel.proofs.judge.kernel_ok.Goals as goal
use Rattle.kernel.proofs.judge.kernel_ok.Goals.{Start}

-- What the rule asks where it is known.
told : (c : Start) {rule : KernelRule} → let a = c.args in a.rule ≡ rule
    → kernel_ok rule a.n a.jobs a.range.low a.range.high a.highest a.kernels a.i ≡ kernel_ok a.rule a.n a.jobs a.range.low a.range.high a.highest a.kernels a.i
told c e = let a = c.args in sym (ap (λ (r : KernelRule). kernel_ok r a.n a.jobs a.range.low a.range.high a.highest a.kernels a.i) e)

pub returns-in-Id : goal.returns-in-Id
returns-in-Id c = told (goal.at.returns-in-Id c).Start c.in-Id.is

pub returns-in-Top : goal.returns-in-Top
returns-in-Top c = c.is_on_top.ensures ∙ told (goal.at.returns-in-Top c).Start c.in-Top.is

pub returns-in-Shape : goal.returns-in-Shape
returns-in-Shape c = c.is_scheduled.ensures ∙ told (goal.at.returns-in-Shape c).Start c.in-Shape.is

pub returns-in-Sharing : goal.returns-in-Sharing
returns-in-Sharing c = c.is_prioritised.ensures ∙ told (goal.at.returns-in-Sharing c).Start c.in-Sharing.is
