use Prim.Native.Nat.{◌*◌}
use mathlib.Core.List.{[], ◌∷◌}
use Rattle.writing.specs.Templates.{rows_to, Wrote}
use Rattle.explaining.specs.Explanations.{cell_of}
use Rattle.explaining.proofs.put_bar.Given as goal

abbrev pub invariant-loop-column : goal.invariant-loop-column
invariant-loop-column l = Wrote (10 * l.column) l.initial.output l.output l.from l.at (rows_to (λ i. cell_of l.parts l.deadline i ∷ []) l.column)
