use Rattle.capi.proofs.Promising.{from-kernel-word}
use Rattle.capi.proofs.ruzhtylen_from_kernel.Goals as goal

pub returns : goal.returns
returns c =
    from-kernel-word _ _ _ _ _ _ _ _ c.from_kernel.result _ c.verdict_word.ensures c.from_kernel.ensures
