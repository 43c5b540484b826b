use Rattle.capi.proofs.Promising.{gate-plan-word}
use Rattle.capi.proofs.ruzhtylen_gate_plan.Goals as goal

pub returns : goal.returns
returns c =
    gate-plan-word _ _ _ _ _ _ _ c.gate_plan.result c.gate_plan.ensures c.plan_word.ensures
