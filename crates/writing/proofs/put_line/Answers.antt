use native.Mathlib.Omega.{arith}
use Rattle.lists.specs.Words.{is_mark}
use Rattle.lists.specs.declared.words.Mark.TheVariants.{LineEnd}
use Rattle.lists.proofs.Parsing.{before-within}
use Rattle.writing.proofs.Writing.{from-template}
use Rattle.writing.proofs.Lining.{line-part}
use Rattle.writing.proofs.put_line.Goals as goal

pub slice_bounds-put_template-end : goal.slice_bounds-put_template-end
slice_bounds-put_template-end c =
    omega (arith, c.find-end.ensures, before-within (is_mark LineEnd) c.args.text.now c.line_start-start.result c.line_start-start.ensures.0)

pub returns : goal.returns
returns c =
    let a = c.args in
    from-template c.put_template.ensures
    (line-part a.text.now a.k c.line_start-start.result c.find-end.result c.line_start-start.ensures.1 c.find-end.ensures)
