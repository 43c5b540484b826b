use Prim.Native.Nat.{ℕ, ◌+◌, ◌-◌, ◌≤◌, ◌<◌}
use mathlib.Core.Path.{◌≡◌, refl, sym, ap, ◌∙◌}
use mathlib.Core.List.{List, [], ◌∷◌, ◌++◌}
use native.Mathlib.Omega.{arith}
use lib.ListN.{length, get_or, take, drop, set, length-append}
use borrow.Author.Rules.{rules}
use Rattle.records.proofs.FixedWidth.{fill-next}
use Rattle.lists.specs.declared.words.Mark.TheVariants.{Blank, Word}
use Rattle.lists.specs.declared.fields.Form.{Form}
use Rattle.std.specs.Prelude.{Ok, Err}
use Rattle.lists.specs.Words.{is_mark}
use Rattle.lists.specs.Rows.{limits_of, word_of, row_of, row_answer}
use Rattle.std.proofs.lemmas.Result.{err_from_is_err_and}
use Rattle.lists.proofs.Parsing.{before-within}
use Rattle.lists.proofs.FieldByField.{few-fields, row-table, too_few, enough, all_read, too_many, field-read, field-wrong}
use Rattle.lists.proofs.fields.read_fields.Goals as goal
use Rattle.lists.proofs.fields.read_fields.Goals.{After-find-end, After-read_word}

pub loop-i-init : goal.loop-i-init
loop-i-init c = (search rules, ([], refl, refl, refl))

pub returns-then-i-needed : goal.returns-then-i-needed
returns-then-i-needed c =
    let w = c.loop-i.invariant.1 in
    let a = c.args in
    ap Err c.count_fault.ensures
    ∙ ap row_answer (sym (too_few a.form a.content.now c.loop-i.at c.loop-i.i w.0 c.loop-i.invariant.0 w.1 _ c.find-start.ensures (omega (arith, c.if-start-content.true)) (omega (arith, c.loop-i-test.true, ap length c.limits-limit-items.ensures)) (omega (arith, c.if-i-needed.true, c.needed.ensures))) ∙ w.3)

pub returns-then-start-content : goal.returns-then-start-content
returns-then-start-content c =
    let w = c.loop-i.invariant.1 in
    let a = c.args in
    ap Ok (c.from.ensures ∙ ap row_of w.2 ∙ row-table w.0)
    ∙ ap row_answer (sym (enough a.form a.content.now c.loop-i.at c.loop-i.i w.0 c.loop-i.invariant.0 w.1 _ c.find-start.ensures (omega (arith, c.if-start-content.true)) (omega (arith, c.loop-i-test.true, ap length c.limits-limit-items.ensures)) (omega (arith, c.if-i-needed.false, c.needed.ensures))) ∙ w.3)

-- A field that the form has, and a word for it.
module _ (c : After-find-end) where
  abbrev form : Form
  form = c.args.form

  abbrev content : List ℕ
  content = c.args.content.now

  in-fields : c.loop-i.i < length (limits_of form)
  in-fields = omega (arith, c.loop-i-test.true, ap length c.limits-limit-items.ensures)

  in_table : c.loop-i.i < 5
  in_table = omega (arith, in-fields, few-fields form)

  word-left : c.find-start.result < length content
  word-left = omega (arith, c.if-start-content.false, c.find-start.ensures, before-within (is_mark Word) content c.loop-i.at c.loop-i.invariant.0)

  word_end : c.find-end.result ≤ length content
  word_end = omega (arith, c.find-end.ensures, before-within (is_mark Blank) content c.find-start.result (omega (arith, word-left)))

pub slice_bounds-read_word-end : goal.slice_bounds-read_word-end
slice_bounds-read_word-end c = word_end (goal.at.slice_bounds-read_word-end c).After-find-end

pub read_word-requires : goal.read_word-requires
read_word-requires c = in_table (goal.at.read_word-requires c).After-find-end

-- The word is that of its field.
module _ (c : After-read_word) where
  abbrev i : ℕ
  i = c.loop-i.i

  abbrev form' : Form
  form' = form (goal.at.After-read_word c).After-find-end

  word_read : c.read_word.result ≡ word_of form' i (get_or (limits_of form') i 0) (take (c.find-end.result - c.find-start.result) (drop c.find-start.result (content (goal.at.After-read_word c).After-find-end)))
  word_read =
      c.read_word.ensures
      ∙ ap (λ (t : List ℕ). word_of form' i (get_or t i 0) (take (c.find-end.result - c.find-start.result) (drop c.find-start.result (content (goal.at.After-read_word c).After-find-end)))) c.limits-limit-items.ensures

pub returns-in_err-numbers : goal.returns-in_err-numbers
returns-in_err-numbers c =
    let w = c.loop-i.invariant.1 in
    let p = err_from_is_err_and c.from_residual.result c.from_residual.ensures.1 in
    rw (p.1, p.2) (ap row_answer (sym (field-wrong (form (goal.at.returns-in_err-numbers c).After-find-end) (content (goal.at.returns-in_err-numbers c).After-find-end) c.loop-i.at c.loop-i.i w.0 c.loop-i.invariant.0 w.1 _ c.find-start.ensures (word-left (goal.at.returns-in_err-numbers c).After-find-end) (in-fields (goal.at.returns-in_err-numbers c).After-find-end) _ c.find-end.ensures _ (word_read (goal.at.returns-in_err-numbers c).After-read_word) _ c.in_err-numbers.was) ∙ w.3))

pub offset_bounds-numbers-i : goal.offset_bounds-numbers-i
offset_bounds-numbers-i c = omega (arith, in_table (goal.at.offset_bounds-numbers-i c).After-find-end)

pub bounds-numbers-i : goal.bounds-numbers-i
bounds-numbers-i c = in_table (goal.at.bounds-numbers-i c).After-find-end

pub loop-i-preserved : goal.loop-i-preserved
loop-i-preserved c =
    let w = c.loop-i.invariant.1 in
    let n = c.in_ok-numbers.field-0 in (
      word_end (goal.at.loop-i-preserved c).After-find-end,
      (
        w.0 ++ (n ∷ []),
        length-append w.0 (n ∷ []) ∙ ap (λ (k : ℕ). k + 1) w.1,
        ap (λ (t : List ℕ). set t c.loop-i.i n) w.2 ∙ fill-next 5 c.loop-i.i w.0 0 n w.1 (in_table (goal.at.loop-i-preserved c).After-find-end),
        sym (field-read (form (goal.at.loop-i-preserved c).After-find-end) (content (goal.at.loop-i-preserved c).After-find-end) c.loop-i.at c.loop-i.i w.0 c.loop-i.invariant.0 w.1 _ c.find-start.ensures (word-left (goal.at.loop-i-preserved c).After-find-end) (in-fields (goal.at.loop-i-preserved c).After-find-end) _ c.find-end.ensures _ (word_read (goal.at.loop-i-preserved c).After-read_word) n c.in_ok-numbers.was) ∙ w.3,
      ),
    )

pub returns-then-find-content : goal.returns-then-find-content
returns-then-find-content c =
    let w = c.loop-i.invariant.1 in
    let a = c.args in
    ap Err c.count_fault-then-find-content.ensures
    ∙ ap row_answer (sym (too_many a.form a.content.now c.loop-i.at c.loop-i.i w.0 c.loop-i.invariant.0 w.1 _ c.find.ensures c.if-find-content.true (omega (arith, c.loop-i-test.false, ap length c.limits-limit-items.ensures))) ∙ w.3)

pub returns : goal.returns
returns c =
    let w = c.loop-i.invariant.1 in
    let a = c.args in
    ap Ok (c.from-2.ensures ∙ ap row_of w.2 ∙ row-table w.0)
    ∙ ap row_answer (sym (all_read a.form a.content.now c.loop-i.at c.loop-i.i w.0 c.loop-i.invariant.0 w.1 _ c.find.ensures (omega (arith, c.if-find-content.false)) (omega (arith, c.loop-i-test.false, ap length c.limits-limit-items.ensures))) ∙ w.3)
