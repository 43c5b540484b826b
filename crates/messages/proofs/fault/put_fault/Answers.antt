use native.Mathlib.Omega.{arith}
use Rattle.writing.specs.Templates.{filled}
use Rattle.writing.proofs.Writing.{then, whole}
use borrow.Author.Rules.{rules}
use Rattle.messages.proofs.fault.put_fault.Goals as goal

pub returns : goal.returns
unfolding filled
returns c =
    let line = c.put_template-after_line.ensures.wrote (search rules) in
    let said = c.put_message-after_message.ensures in
    whole (then line (then said (c.put_template.ensures.wrote (omega (arith, line.next, line.short, said.next, said.short))))) (search rules)
