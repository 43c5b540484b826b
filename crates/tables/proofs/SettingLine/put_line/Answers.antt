use mathlib.Core.List.{[]}
use native.Mathlib.Omega.{arith}
use Rattle.writing.proofs.Writing.{then, retold}
use Rattle.tables.proofs.Tabling.{setting-line}
use borrow.Author.Rules.{rules}
use Rattle.tables.proofs.SettingLine.put_line.Goals as goal

pub returns : goal.returns
returns c =
    let a = c.args in
    let start = c.put_template-after_level.ensures.wrote (search rules) in
    let word = c.put_policy-after_policy.ensures in
    retold (then start (then word (c.put_template.ensures.wrote (omega (arith, start.next, start.short, word.next, word.short))))) (setting-line a.self [] [])
