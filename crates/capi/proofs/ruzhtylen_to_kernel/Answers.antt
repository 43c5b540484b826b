use Rattle.capi.proofs.Promising.{to-kernel-word}
use Rattle.capi.proofs.ruzhtylen_to_kernel.Goals as goal

pub returns : goal.returns
returns c =
    to-kernel-word _ _ _ _ _ _ _ _ c.to_kernel.result _ c.verdict_word.ensures c.to_kernel.ensures
