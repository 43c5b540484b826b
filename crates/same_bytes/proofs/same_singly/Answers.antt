use mathlib.Core.Path.{sym}
use mathlib.Core.Path.{◌∙◌}
use borrow.Author.Tests.{ne_eqb}
use Rattle.std.proofs.Common.{rules, tests}
use Rattle.std.proofs.lemmas.Iterator.{YieldsList-from_slice, YieldsList-from_zip, same_from_all}
use Rattle.same_bytes.proofs.Equality.{same-lengths, decided}
use Rattle.same_bytes.proofs.same_singly.Goals as goal

pub returns-then-a-b : goal.returns-then-a-b
returns-then-a-b c =
    let a = c.args in
    decided a.a.now a.b.now _ (same_from_all c.all.new.self _ _ _ _ c.all.ensures.ran (YieldsList-from_zip (YieldsList-from_slice a.a.now (search rules)) (YieldsList-from_slice a.b.now (search rules))) (search rules) (λ x q k. search (rules, tests)) (λ x q k. search (rules, tests)))

pub returns-else-a-b : goal.returns-else-a-b
returns-else-a-b c = let a = c.args in ne_eqb _ _ c.if-a-b.false ∙ sym (same-lengths a.a.now a.b.now c.if-a-b.false)
