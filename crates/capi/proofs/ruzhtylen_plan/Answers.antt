use Rattle.capi.proofs.Promising.{word-promise}
use Rattle.capi.proofs.ruzhtylen_plan.Goals as goal

pub returns : goal.returns
returns c =
    word-promise _ _ _ _ _ _ _ c.plan.result c.plan.ensures c.plan_word.ensures
