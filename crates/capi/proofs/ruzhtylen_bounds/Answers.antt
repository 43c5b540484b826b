use Rattle.capi.specs.Words.{no_value}
use Rattle.capi.proofs.Worded.{worded}
use Rattle.capi.proofs.ruzhtylen_bounds.Goals as goal

pub returns : goal.returns
returns c =
    worded no_value c.verdict_word.ensures c.bounds.ensures
