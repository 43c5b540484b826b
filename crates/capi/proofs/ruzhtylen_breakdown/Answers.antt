use Rattle.capi.proofs.Promising.{breakdown-word}
use Rattle.capi.proofs.ruzhtylen_breakdown.Goals as goal

pub returns : goal.returns
returns c =
    breakdown-word _ _ _ _ _ _ c.breakdown.result _ c.verdict_word.ensures c.breakdown.ensures
