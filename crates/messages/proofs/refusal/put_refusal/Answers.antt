use borrow.Author.Rules.{rules}
use native.Mathlib.Omega.{arith}
use Rattle.writing.specs.Templates.{filled}
use Rattle.writing.proofs.Writing.{then, whole}
use Rattle.messages.specs.Refusals.{refusal_text}
use Rattle.messages.proofs.refusal.put_refusal.Goals as goal

pub returns : goal.returns
unfolding refusal_text filled
returns c =
    let refused = c.put_template-after_number.ensures.wrote (search rules) in
    let named = c.put_record-after_record.ensures in
    let said = c.put_sentence-after_sentence.ensures in
    whole (then refused (then named (then said (c.put_template.ensures.wrote (omega (arith, refused.next, refused.short, named.next, named.short, said.next, said.short)))))) (search rules)
