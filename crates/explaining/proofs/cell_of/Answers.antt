use mathlib.Core.Path.{sym}
use native.Mathlib.Omega.{arith}
use Rattle.explaining.proofs.Explaining.{own-cell, layer-cell, above-cell, late-cell, spare-cell}
use Rattle.explaining.proofs.cell_of.Goals as goal

pub returns-then-here-column_of : goal.returns-then-here-column_of
returns-then-here-column_of c =
    let a = c.args in
    sym (own-cell a.parts a.deadline a.column (omega (arith, c.if-here-column_of.true, c.column_of.ensures)))

pub returns-then-here-column_of-2 : goal.returns-then-here-column_of-2
returns-then-here-column_of-2 c =
    let a = c.args in
    sym (layer-cell a.parts a.deadline a.column (omega (arith, c.if-here-column_of.false, c.column_of.ensures)) (omega (arith, c.if-here-column_of-2.true, c.column_of-2.ensures)))

pub returns-then-here-column_of-3 : goal.returns-then-here-column_of-3
returns-then-here-column_of-3 c =
    let a = c.args in
    sym (above-cell a.parts a.deadline a.column (omega (arith, c.if-here-column_of.false, c.column_of.ensures)) (omega (arith, c.if-here-column_of-2.false, c.column_of-2.ensures))
    (omega (arith, c.if-here-column_of-3.true, c.column_of-3.ensures)))

pub returns-then-here-column_of-4 : goal.returns-then-here-column_of-4
returns-then-here-column_of-4 c =
    let a = c.args in
    sym (late-cell a.parts a.deadline a.column (omega (arith, c.if-here-column_of.false, c.column_of.ensures)) (omega (arith, c.if-here-column_of-2.false, c.column_of-2.ensures))
    (omega (arith, c.if-here-column_of-3.false, c.column_of-3.ensures)) (omega (arith, c.if-here-column_of-4.true, c.column_of-4.ensures)))

pub returns : goal.returns
returns c =
    let a = c.args in
    sym (spare-cell a.parts a.deadline a.column (omega (arith, c.if-here-column_of.false, c.column_of.ensures)) (omega (arith, c.if-here-column_of-2.false, c.column_of-2.ensures))
    (omega (arith, c.if-here-column_of-3.false, c.column_of-3.ensures)) (omega (arith, c.if-here-column_of-4.false, c.column_of-4.ensures)))
