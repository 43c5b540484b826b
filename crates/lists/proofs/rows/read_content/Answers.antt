use Prim.Native.Nat.{ℕ, ◌-◌, ◌≤◌, ◌<◌}
use mathlib.Core.Path.{◌≡◌, sym, ap, ◌∙◌}
use mathlib.Core.Bool.{true, false}
use mathlib.Core.List.{List}
use native.Mathlib.Omega.{arith}
use lib.ListN.{length, take, drop}
use Rattle.lists.specs.declared.words.Mark.TheVariants.{Blank, Word}
use Rattle.lists.specs.declared.fields.Form.{Form}
use Rattle.lists.specs.declared.fields.Form.TheVariants.{Quanta}
use Rattle.lists.specs.Words.{is_mark, words}
use Rattle.std.proofs.lemmas.Result.{err_from_is_err_and}
use Rattle.lists.specs.Rows.{says_range, says_placed, words_line, read_fields, row_answer, row_line, range_line}
use Rattle.lists.proofs.Parsing.{before-within}
use Rattle.lists.proofs.RowByRow.{line-empty, line-range, line-placed, line_row}
use Rattle.lists.proofs.rows.read_content.Goals as goal
use Rattle.lists.proofs.rows.read_content.Goals.{After-find-end, After-says_placed}

pub returns-then-start-content : goal.returns-then-start-content
returns-then-start-content c = let a = c.args in sym (line-empty a.form a.content.now _ c.find-start.ensures (omega (arith, c.if-start-content.true)))

-- The first word.
module _ (c : After-find-end) where
  abbrev content : List ℕ
  content = c.args.content.now

  abbrev form : Form
  form = c.args.form

  word-left : c.find-start.result < length content
  word-left = omega (arith, c.if-start-content.false, c.find-start.ensures, before-within (is_mark Word) content 0 (omega arith))

  word_end : c.find-end.result ≤ length content
  word_end = omega (arith, c.find-end.ensures, before-within (is_mark Blank) content c.find-start.result (omega (arith, word-left)))

pub slice_bounds-says_range-end : goal.slice_bounds-says_range-end
slice_bounds-says_range-end c = word_end (goal.at.slice_bounds-says_range-end c).After-find-end

pub read_fields-requires : goal.read_fields-requires
read_fields-requires c = word_end (goal.at.read_fields-requires c).After-find-end

-- The line of a range, and a line of fields.
module _ (c : After-find-end) where
  ranges : says_range (form c) (take (c.find-end.result - c.find-start.result) (drop c.find-start.result (content c))) ≡ true → words_line (form c) (words (content c)) ≡ range_line (row_answer (read_fields Quanta (words (drop c.find-end.result (content c)))))
  ranges h = line-range (form c) (content c) _ c.find-start.ensures (word-left c) _ c.find-end.ensures h

pub returns-in_err-row : goal.returns-in_err-row
returns-in_err-row c =
    let p = err_from_is_err_and c.from_residual.result c.from_residual.ensures.1 in
    rw (p.1, p.2) (sym (ranges (goal.at.returns-in_err-row c).After-find-end (sym c.says_range.ensures ∙ c.if-says_range.true) ∙ ap range_line (sym c.read_fields.ensures ∙ c.in_err-row.was)))

pub returns-then-says_range : goal.returns-then-says_range
returns-then-says_range c =
    sym (ranges (goal.at.returns-then-says_range c).After-find-end (sym c.says_range.ensures ∙ c.if-says_range.true) ∙ ap range_line (sym c.read_fields.ensures ∙ c.in_ok-row.was))

pub slice_bounds-says_placed-end : goal.slice_bounds-says_placed-end
slice_bounds-says_placed-end c = word_end (goal.at.slice_bounds-says_placed-end c).After-find-end

pub returns-then-says_placed : goal.returns-then-says_placed
returns-then-says_placed c =
    sym (line-placed (form (goal.at.returns-then-says_placed c).After-find-end) (content (goal.at.returns-then-says_placed c).After-find-end) _ c.find-start.ensures (word-left (goal.at.returns-then-says_placed c).After-find-end) _ c.find-end.ensures (sym c.says_range.ensures ∙ c.if-says_range.false) (sym c.says_placed.ensures ∙ c.if-says_placed.true))

module _ (c : After-says_placed) where
  row_read : says_placed c.args.form (take (c.find-end.result - c.find-start.result) (drop c.find-start.result c.args.content.now)) ≡ false → words_line c.args.form (words c.args.content.now) ≡ row_line (row_answer (read_fields c.args.form (words c.args.content.now)))
  row_read h = line_row c.args.form c.args.content.now _ c.find-start.ensures (word-left (goal.at.After-says_placed c).After-find-end) _ c.find-end.ensures (sym c.says_range.ensures ∙ c.if-says_range.false) h

pub returns-in_err-row-2 : goal.returns-in_err-row-2
returns-in_err-row-2 c =
    let p = err_from_is_err_and c.from_residual-in_err-row-2.result c.from_residual-in_err-row-2.ensures.1 in
    rw (p.1, p.2) (sym (row_read (goal.at.returns-in_err-row-2 c).After-says_placed (sym c.says_placed.ensures ∙ c.if-says_placed.false) ∙ ap row_line (sym c.read_fields-2.ensures ∙ c.in_err-row-2.was)))

pub returns : goal.returns
returns c =
    sym (row_read (goal.at.returns c).After-says_placed (sym c.says_placed.ensures ∙ c.if-says_placed.false) ∙ ap row_line (sym c.read_fields-2.ensures ∙ c.in_ok-row-2.was))
