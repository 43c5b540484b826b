use mathlib.Core.Path.{ap, ◌∙◌}
use native.Mathlib.Omega.{arith}
use Rattle.records.specs.Records.{flat}
use Rattle.writing.specs.Templates.{line_of}
use Rattle.writing.proofs.Writing.{widened, from-template}
use Rattle.messages.specs.Refusals.{template}
use Rattle.messages.proofs.Told.{lines_of, sentences, sentence-told}
use Rattle.messages.proofs.refusal.put_sentence.Goals as goal

pub returns : goal.returns
unfolding lines_of sentences flat
returns c =
    let a = c.args in
    let told = sentence-told a.sentence in
    let wrote = (from-template c.put_line.ensures (ap (line_of (lines_of template sentences)) c.sentence_line.ensures ∙ told.0)).wrote (omega (arith, told.1)) in
    widened 600 wrote (omega (arith, told.1))
