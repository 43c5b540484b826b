use native.Mathlib.Omega.{arith}
use mathlib.Core.Path.{refl}
use Rattle.writing.specs.Templates.{filled}
use Rattle.writing.proofs.Writing.{then, retold, widened}
use Rattle.explaining.specs.Explanations.{served_text}
use borrow.Author.Rules.{rules}
use Rattle.explaining.proofs.put_served.Goals as goal

pub returns : goal.returns
unfolding served_text filled
returns c =
    let sum = c.put_template-after_sum.ensures.wrote (search rules) in
    let drawn = c.put_bar-after_bar.ensures in
    retold (widened 1300 (then sum (then drawn (c.put_template.ensures.wrote (omega (arith, sum.next, sum.short, drawn.next, drawn.short))))) (omega arith)) refl
