use Rattle.capi.specs.Words.{truth_value}
use Rattle.capi.proofs.Worded.{worded}
use Rattle.capi.proofs.ruzhtylen_mark.Goals as goal

pub returns : goal.returns
returns c =
    worded truth_value c.mark_word.ensures c.mark.ensures
