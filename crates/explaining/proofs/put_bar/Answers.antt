use mathlib.Core.List.{[], ◌∷◌}
use native.Mathlib.Omega.{arith}
use Rattle.writing.proofs.Writing.{retold, next-fits, row-next, rows-all}
use Rattle.explaining.specs.Explanations.{columns, cell_of}
use Rattle.explaining.proofs.Explaining.{cell-filled}
use Rattle.explaining.proofs.put_bar.Goals as goal

pub loop-column-preserved : goal.loop-column-preserved
loop-column-preserved c =
    let a = c.args in
    let one = c.put_template-at.ensures.wrote (next-fits 10 _ {n = columns} c.loop-column.invariant c.loop-column-test.true (omega (arith, c.requires))) in
    row-next 10 (λ i. cell_of a.parts a.deadline i ∷ []) _ c.loop-column.invariant (retold one (cell-filled a.parts a.deadline c.loop-column.column c.cell_of.result _ c.cell_of.ensures))

pub returns : goal.returns
returns c =
    let a = c.args in
    rows-all 10 500 (λ i. cell_of a.parts a.deadline i ∷ []) columns (omega (arith, c.loop-column.auto.column-end, c.loop-column-test.false)) c.loop-column.invariant (omega arith)
