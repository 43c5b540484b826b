use Prim.Native.Nat.{ℕ, ◌+◌, ◌/◌, ◌≤◌}
use mathlib.Core.Path.{sym, ap, ◌∙◌}
use mathlib.Core.List.{[], ◌∷◌, ◌++◌}
use native.Mathlib.Omega.{arith}
use lib.ListN.{length}
use Rattle.lists.specs.Decimals.{decimal}
use Rattle.lists.proofs.Decimal.{decimal-one, decimal-more, length-one, length_more, decimal-short}
use Rattle.writing.proofs.Writing.{then, same_length, retold, limited}
use Rattle.writing.proofs.+put_digits.Goals as goal

pub put_byte-requires : goal.put_byte-requires
put_byte-requires t c = omega (arith, length-one c.args.n c.if-n-lt10.true, c.requires)

pub returns-then-n-lt10 : goal.returns-then-n-lt10
returns-then-n-lt10 t c =
    let n = c.args.n in
    let e = ap (λ (x : ℕ). x ∷ []) c.last_digit.ensures ∙ sym (decimal-one n c.if-n-lt10.true) in
    limited 10 (retold c.put_byte.ensures e) (decimal-short n c.ranges.n.fits)

pub put_digits-next-requires : goal.put_digits-next-requires
put_digits-next-requires t c =
    let n = c.args.n in
    let h : c.args.at + length (decimal (n / 10)) ≤ length c.args.buffer.now = omega (arith, length_more n c.if-n-lt10.false, c.requires) in
    (omega (arith, c.decreases, c.if-n-lt10.false), h)

pub put_byte-requires-2 : goal.put_byte-requires-2
put_byte-requires-2 t c =
    let d = c.put_digits-next.ensures in
    omega (arith, length_more c.args.n c.if-n-lt10.false, c.requires, d.next, same_length d)

pub returns : goal.returns
returns t c =
    let n = c.args.n in
    let e = ap (λ (x : ℕ). decimal (n / 10) ++ (x ∷ [])) c.last_digit-2.ensures ∙ sym (decimal-more n c.if-n-lt10.false) in
    limited 10 (retold (then c.put_digits-next.ensures c.put_byte-2.ensures) e) (decimal-short n c.ranges.n.fits)
