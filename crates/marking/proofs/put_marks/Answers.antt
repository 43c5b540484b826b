use Prim.Native.Nat.{ℕ, min}
use mathlib.Core.Path.{◌≡◌, ap, ap₂, ◌∙◌}
use mathlib.Core.Bool.{Bool}
use native.Mathlib.Nat.{zero-add}
use native.Mathlib.Omega.{arith}
use Rattle.records.specs.Limits.{most_jobs}
use Rattle.records.specs.Refusals.{given}
use Rattle.marking.specs.Marks.{none_over, marks_text}
use Rattle.writing.proofs.Writing.{then}
use Rattle.marking.proofs.put_marks.Goals as goal

pub returns : goal.returns
unfolding marks_text
returns c =
    let a = c.args in
    let n : min a.n most_jobs ≡ a.n = omega (arith, c.requires.0) in
    let all = then c.put_lines-last.ensures c.put_verdict-length.ensures in (
      ap₂ (λ (b : Bool) (y : ℕ × ℕ). given (b, y))
          (c.none_zero-passes.ensures ∙ ap (λ (k : ℕ). none_over k a.bounds) n)
          (ap₂ (λ (x y : ℕ). (x, y)) (c.put_lines-last.ensures.next ∙ zero-add _) (all.next ∙ zero-add _)),
      omega (arith, c.put_verdict-length.ensures.next),
      all,
    )
