use mathlib.Core.Path.{sym, ap, ◌∙◌}
use mathlib.Core.List.{List}
use Prim.Native.Nat.{ℕ}
use native.Mathlib.Omega.{arith}
use native.Mathlib.Nat.{zero-add}
use lib.ListN.{length, take}
use lib.Seq.{length-take-le}
use Rattle.lists.specs.declared.words.Mark.TheVariants.{Comment}
use Rattle.lists.specs.Words.{is_mark, before, words}
use Rattle.lists.specs.Rows.{words_line, plain_line}
use Rattle.lists.proofs.Parsing.{before-take, before-within}
use Rattle.lists.proofs.rows.read_plain.Goals as goal

pub slice_bounds-read_content-end : goal.slice_bounds-read_content-end
slice_bounds-read_content-end c = sym (length-take-le _ _ (omega (arith, c.find-end.ensures, before-within (is_mark Comment) c.args.line.now 0 (omega arith))))

pub returns : goal.returns
unfolding plain_line
returns c =
    let a = c.args in
    let line = a.line.now in
    c.read_content.ensures ∙ ap (λ (l : List ℕ). words_line a.form (words l)) (ap (λ (k : ℕ). take k line) (c.find-end.ensures ∙ zero-add (length (before (is_mark Comment) line))) ∙ before-take (is_mark Comment) line)
