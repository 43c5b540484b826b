use Prim.Native.Nat.{ℕ, ◌+◌, ◌-◌, ◌≤◌}
use mathlib.Core.Path.{◌≡◌, refl, sym, ap, ap₂, ◌∙◌}
use mathlib.Core.Bool.{Bool, false}
use mathlib.Core.List.{List}
use lib.ListN.{length, drop, length-drop}
use lib.Seq.{take_all}
use native.Mathlib.Omega.{arith}
use Rattle.std.proofs.Common.{of_calls}
use Rattle.std.proofs.lemmas.Fn.{always_returns_same}
use Rattle.std.specs.List.{IsFirstMatchOrLen}
use Rattle.lists.specs.declared.words.Mark.TheVariants.{LineEnd}
use Rattle.lists.specs.Words.{is_mark}
use Rattle.std.specs.declared.slice.Split.{Split}
use Rattle.lists.specs.Rows.{read_line, Rows, Reading, given, with_line, read_lines, no_rows, read_text, rows_in}
use Rattle.lists.proofs.RowByRow.{fault-stays, lines_left, part-next, left-less}
use Rattle.lists.proofs.rows.read_rows.Goals as goal
use Rattle.lists.proofs.rows.read_rows.Goals.{In-Some}

pub loop-line-init : goal.loop-line-init
unfolding read_text
loop-line-init c =
    let text = c.args.text.now in
    let same = c.into_iter-line-iterator.ensures.into_iter_gives in
    let m = c.mark_size.result in
    let done : c.into_iter-line-iterator.result.done ≡ false = ap (λ (s : Split ℕ (Unit {0})). s.done) same ∙ c.split-line-items.ensures.done in
    let rest : c.into_iter-line-iterator.result.rest.now ≡ drop m text = ap (λ (s : Split ℕ (Unit {0})). s.rest.now) same ∙ c.split-line-items.ensures.rest ∙ take_all (length text - m) (drop m text) (omega (arith, length-drop m text)) in (
      rw done (omega (arith, ap length rest, length-drop m text)),
      ap₂ (λ (b : Bool) (s : List ℕ). read_lines c.args.form 1 (given no_rows) (lines_left b s)) done (rest ∙ ap (λ (k : ℕ). drop k text) c.mark_size.ensures.0),
    )

pub overflow_add-number : goal.overflow_add-number
overflow_add-number c =
    let left : c.loop-line.number + (length c.loop-line.line-iterator.rest.now + 1) ≤ length c.args.text.now + 1 = rw c.in-Some.ensures.steps.0 at c.loop-line.invariant.0 in
    omega arith

-- The line is the first of those that are left.
module _ (c : In-Some) where
  first : IsFirstMatchOrLen (is_mark LineEnd) c.loop-line.line-iterator.rest.now (length c.in-Some.line.now)
  first = (c.in-Some.ensures.steps.2 (is_mark LineEnd) (always_returns_same _ _ _ (λ a r f' h. (search of_calls, refl)))).1

  next : read_lines c.args.form (c.loop-line.number + 1 + 1) (with_line (c.loop-line.number + 1) (read_line c.args.form c.in-Some.line.now) (given (rows_in c.loop-line.read))) (lines_left c.next.new.self.done c.next.new.self.rest.now) ≡ read_text c.args.form c.args.text.now
  next =
      sym (part-next c.args.form (c.loop-line.number + 1) (given (rows_in c.loop-line.read)) c.loop-line.line-iterator.rest.now c.in-Some.line.now c.next.new.self.rest.now c.next.new.self.done first c.in-Some.ensures.steps.1)
      ∙ ap (λ (b : Bool). read_lines c.args.form (c.loop-line.number + 1) (given (rows_in c.loop-line.read)) (lines_left b c.loop-line.line-iterator.rest.now)) (sym c.in-Some.ensures.steps.0)
      ∙ c.loop-line.invariant.1

pub returns-in-Err : goal.returns-in-Err
returns-in-Err c =
    let number = c.loop-line.number + 1 in
    let rest = lines_left c.next.new.self.done c.next.new.self.rest.now in
    sym (fault-stays c.args.form (number + 1) number c.in-Err.fault rest)
    ∙ ap (λ (r : Reading Rows). read_lines c.args.form (number + 1) r rest) c.in-Err.ensures
    ∙ next (goal.at.returns-in-Err c).In-Some

pub loop-line-preserved : goal.loop-line-preserved
loop-line-preserved c =
    let number = c.loop-line.number + 1 in
    let it = c.next.new.self in
    let left : c.loop-line.number + (length c.loop-line.line-iterator.rest.now + 1) ≤ length c.args.text.now + 1 = rw c.in-Some.ensures.steps.0 at c.loop-line.invariant.0 in (
      omega (arith, left-less c.loop-line.line-iterator.rest.now c.in-Some.line.now it.rest.now it.done c.in-Some.ensures.steps.1),
      ap (λ (r : Reading Rows). read_lines c.args.form (number + 1) r (lines_left it.done it.rest.now)) c.in_default.ensures ∙ next (goal.at.loop-line-preserved c).In-Some,
    )

pub returns : goal.returns
returns c = sym (ap (λ (b : Bool). read_lines c.args.form (c.loop-line.number + 1) (given (rows_in c.loop-line.read)) (lines_left b c.loop-line.line-iterator.rest.now)) c.in-None.ensures.steps.0) ∙ c.loop-line.invariant.1
