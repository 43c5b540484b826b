use Prim.Native.Nat.{ℕ}
use mathlib.Core.Path.{◌≡◌, sym, ap}
use mathlib.Core.List.{[]}
use native.Mathlib.Omega.{arith}
use Rattle.lists.specs.Lists.{line_text, delay_words}
use Rattle.writing.specs.Templates.{filled}
use Rattle.writing.proofs.Writing.{retold, widened}
use Rattle.tables.proofs.Tabling.{delay-told}
use borrow.Author.Rules.{rules}
use Rattle.tables.proofs.put_delay.Goals as goal

pub returns-then-delay-eq0 : goal.returns-then-delay-eq0
unfolding filled
returns-then-delay-eq0 c =
    let e : c.args.delay ≡ 0 = omega (arith, c.if-delay-eq0.true) in
    retold (widened 30 (c.put_template.ensures.wrote (search rules)) (omega arith)) (sym (ap (λ (delay : ℕ). line_text [] (delay_words delay)) e))

pub returns : goal.returns
unfolding filled
returns c =
    retold (c.put_template-2.ensures.wrote (search rules)) (delay-told c.args.delay (omega (arith, c.if-delay-eq0.false)))
