use Rattle.capi.proofs.Promising.{gate-mark-word}
use Rattle.capi.proofs.ruzhtylen_gate_mark.Goals as goal

pub returns : goal.returns
returns c =
    gate-mark-word _ _ _ _ _ _ c.gate_mark.result _ c.mark_word.ensures c.gate_mark.ensures
