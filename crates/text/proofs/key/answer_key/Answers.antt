use Prim.Native.Nat.{ℕ}
use mathlib.Core.Path.{ap, ◌∙◌}
use lib.Dec.{eqb}
use Rattle.records.specs.Refusals.{given}
use Rattle.text.specs.Answers.{answered}
use Rattle.text.specs.Keys.{table_text}
use Rattle.writing.proofs.Writing.{whole, retold}
use Rattle.text.proofs.KeyText.{key-refused, answer-refused, answer-given, key-planned, key-text, key-promise}
use borrow.Author.Rules.{rules}
use Rattle.text.proofs.key.answer_key.Goals as goal

pub returns-in-Err : goal.returns-in-Err
returns-in-Err c =
    let a = c.args in
    let p = key-promise a.jobs.now a.low a.high _ _ _ (whole (retold c.refused_key.ensures.1 (key-refused a.jobs.now a.low a.high _ c.read_call.ensures _ c.in-Err.is)) (search rules)) in
    (p.0, p.1, p.2, ap answered c.refused_key.ensures.0 ∙ answer-refused a.jobs.now a.low a.high _ c.read_call.ensures _ c.in-Err.is)

pub returns-in-Err-plan_table : goal.returns-in-Err-plan_table
returns-in-Err-plan_table c =
    let a = c.args in
    absurd (key-planned a.jobs.now a.low a.high _ c.read_call.ensures _ c.in-Ok.is _ c.plan_table.ensures _ c.in-Err-plan_table.is)

pub returns : goal.returns
returns c =
    let a = c.args in
    let r = c.in-Ok-plan_table.plan in
    let n = c.in-Ok.call.jobs.count in
    let text = key-text a.jobs.now a.low a.high _ c.read_call.ensures _ c.in-Ok.is _ c.plan_table.ensures _ c.in-Ok-plan_table.is in
    let held = key-promise a.jobs.now a.low a.high _ _ _
    (whole (retold c.put_key-length.ensures (ap (λ (m : ℕ). table_text r.settings r.bounds m n) c.size-placed.ensures ∙ text)) (search rules)) in (
      held.0,
      held.1,
      held.2,
      ap (λ (k : ℕ). given (eqb k n)) c.size-placed.ensures ∙ answer-given a.jobs.now a.low a.high _ c.read_call.ensures _ c.in-Ok.is _ c.plan_table.ensures _ c.in-Ok-plan_table.is,
    )
