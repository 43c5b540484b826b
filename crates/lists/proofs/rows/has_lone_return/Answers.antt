use native.Mathlib.Omega.{arith}
use Rattle.lists.specs.declared.words.Mark.TheVariants.{Return}
use Rattle.lists.specs.Words.{is_mark}
use Rattle.lists.proofs.Parsing.{before-within}
use Rattle.lists.proofs.rows.has_lone_return.Goals as goal

pub overflow_add-result : goal.overflow_add-result
overflow_add-result c = omega (arith, c.find-at.ensures, before-within (is_mark Return) c.args.line.now 0 (omega arith))
