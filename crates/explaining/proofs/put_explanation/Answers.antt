use Prim.Native.Nat.{ℕ, min}
use mathlib.Core.Path.{◌≡◌, ap, ap₂, ◌∙◌}
use mathlib.Core.Bool.{Bool}
use native.Mathlib.Nat.{zero-add}
use native.Mathlib.Omega.{arith}
use Rattle.records.specs.Limits.{most_jobs}
use Rattle.records.specs.Refusals.{given}
use Rattle.writing.specs.Templates.{filled}
use Rattle.writing.proofs.Writing.{then}
use Rattle.marking.specs.Marks.{none_over}
use Rattle.explaining.specs.Explanations.{explain_text}
use Rattle.explaining.proofs.put_explanation.Goals as goal

pub returns : goal.returns
unfolding explain_text filled
returns c =
    let a = c.args in
    let n : min a.n most_jobs ≡ a.n = omega (arith, c.requires.0) in
    let rows = c.put_jobs-last.ensures in
    let closing = c.put_template-length.ensures.wrote (omega (arith, rows.next, rows.short, c.requires.1)) in
    let all = then rows closing in (
      ap₂ (λ (b : Bool) (y : ℕ × ℕ). given (b, y))
          (c.none_zero.ensures ∙ ap (λ (k : ℕ). none_over k a.bounds) n)
          (ap₂ (λ (x y : ℕ). (x, y)) (rows.next ∙ zero-add _) (all.next ∙ zero-add _)),
      omega (arith, closing.next),
      all,
    )
