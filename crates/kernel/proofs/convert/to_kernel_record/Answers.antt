use mathlib.Core.Path.{ap}
use Rattle.kernel.specs.declared.priority.KernelPriority.{KernelPriority}
use Rattle.kernel.proofs.convert.to_kernel_record.Goals as goal

pub returns : goal.returns
returns c =
    let s = c.args.setting in
    ap (λ (x : KernelPriority). record { id = s.id; policy = s.policy; priority = x; quantum = s.quantum }) c.priority_of-priority.ensures
