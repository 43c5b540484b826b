use mathlib.Core.Path.{◌≡◌, sym, ap}
use native.Mathlib.Omega.{arith}
use Rattle.lists.specs.Lists.{policy_word}
use Rattle.writing.specs.Templates.{filled}
use Rattle.writing.proofs.Writing.{retold, widened}
use Rattle.tables.proofs.Tabling.{policy-number}
use borrow.Author.Rules.{rules}
use Rattle.tables.proofs.put_policy.Goals as goal

pub returns-then-policy-eq-NOT_PLACED : goal.returns-then-policy-eq-NOT_PLACED
unfolding filled
returns-then-policy-eq-NOT_PLACED c =
    let e : c.args.policy ≡ 0 = omega (arith, c.if-policy-eq-NOT_PLACED.true) in
    retold (c.put_template.ensures.wrote (search rules)) (sym (ap policy_word e))

pub returns-then-policy-eq-FIFO : goal.returns-then-policy-eq-FIFO
unfolding filled
returns-then-policy-eq-FIFO c =
    let e : c.args.policy ≡ 1 = omega (arith, c.if-policy-eq-FIFO.true) in
    retold (c.put_template-then-policy-eq-FIFO.ensures.wrote (search rules)) (sym (ap policy_word e))

pub returns-then-policy-eq-ROUND_ROBIN : goal.returns-then-policy-eq-ROUND_ROBIN
unfolding filled
returns-then-policy-eq-ROUND_ROBIN c =
    let e : c.args.policy ≡ 2 = omega (arith, c.if-policy-eq-ROUND_ROBIN.true) in
    retold (widened 40 (c.put_template-then-policy-eq-ROUND_ROBIN.ensures.wrote (search rules)) (omega arith)) (sym (ap policy_word e))

pub returns : goal.returns
unfolding filled
returns c =
    let a = c.args in
    retold (widened 40 (c.put_template-2.ensures.wrote (search rules)) (omega arith)) (policy-number a.policy c.if-policy-eq-NOT_PLACED.false c.if-policy-eq-FIFO.false c.if-policy-eq-ROUND_ROBIN.false)
