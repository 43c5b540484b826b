use mathlib.Core.Path.{sym, ◌∙◌}
use borrow.Author.Rules.{rules}
use Rattle.writing.proofs.Lining.{line-next, line-past}
use Rattle.writing.proofs.line_start.Goals as goal

pub returns-then-text-end : goal.returns-then-text-end
returns-then-text-end c =
    let a = c.args in
    (search rules, sym (line-past a.text.now a.k c.loop-i.i c.loop-i.at c.find-end.result c.loop-i-test.true c.find-end.ensures c.if-text-end.true) ∙ c.loop-i.invariant.1)

pub loop-i-preserved : goal.loop-i-preserved
loop-i-preserved c =
    let a = c.args in
    (search rules, sym (line-next a.text.now a.k c.loop-i.i c.loop-i.at c.find-end.result c.loop-i-test.true c.find-end.ensures) ∙ c.loop-i.invariant.1)
