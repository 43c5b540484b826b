use Prim.Native.Nat.{ℕ, ◌+◌, ◌*◌}
use mathlib.Core.Path.{◌≡◌, refl, sym, ap, ap₂, ◌∙◌}
use mathlib.Core.List.{List, [], ◌∷◌, ◌++◌}
use native.Mathlib.Numerals.{add-one}
use native.Mathlib.Omega.{arith}
use lib.ListN.{get_or, drop}
use lib.Seq.{drop-cons}
use borrow.Author.Rules.{rules}
use Rattle.writing.specs.Templates.{piece, filled_from, filled}
use Rattle.writing.proofs.Writing.{then, limited-to, nothing, used-small}
use Rattle.writing.proofs.put_filled.Goals as goal

pub loop-byte-init : goal.loop-byte-init
unfolding filled
loop-byte-init c = (search rules, ([], nothing _ _, refl))

pub loop-byte-preserved : goal.loop-byte-preserved
loop-byte-preserved c =
    let a = c.args in
    let w = c.loop-byte.invariant.1 in
    let i = c.loop-byte.byte-index in
    let template = a.template.now in
    let byte = get_or template i 0 in
    let number = c.number_at.result in
    let step = then w.1 c.put_piece-next.ensures in
    let ten : 10 * i + 10 ≡ 10 * (i + 1) = omega arith in
    let on : drop i template ≡ byte ∷ drop (i + 1) template = drop-cons template i 0 c.loop-byte-test.true ∙ ap (λ (k : ℕ). byte ∷ drop k template) (sym (add-one i)) in (
      omega (arith, c.used_after-used.ensures, used-small byte c.loop-byte.used, c.loop-byte.invariant.0),
      (
        w.0 ++ piece byte number,
        limited-to ten step,
        ap₂ (λ (n u : ℕ). filled_from a.numbers.now (w.0 ++ piece byte n) (drop (i + 1) template) u) c.number_at.ensures c.used_after-used.ensures
            ∙ sym (ap (λ (x : List ℕ). filled_from a.numbers.now w.0 x c.loop-byte.used) on)
            ∙ w.2,
      ),
    )
