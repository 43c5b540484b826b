use mathlib.Core.Path.{sym, ap, ◌∙◌}
use mathlib.Core.Bool.{Bool, cond}
use native.Mathlib.Omega.{arith}
use Rattle.lists.proofs.RowByRow.{mark-begins}
use Rattle.lists.proofs.rows.mark_size.Goals as goal

pub returns-then-starts_with : goal.returns-then-starts_with
returns-then-starts_with c = (ap (λ (b : Bool). cond b 3 0) (sym c.if-starts_with.true ∙ c.starts_with.ensures.value ∙ mark-begins c.args.text.now), c.starts_with.ensures.bound c.if-starts_with.true)

pub returns-else-starts_with : goal.returns-else-starts_with
returns-else-starts_with c = (ap (λ (b : Bool). cond b 3 0) (sym c.if-starts_with.false ∙ c.starts_with.ensures.value ∙ mark-begins c.args.text.now), omega arith)
