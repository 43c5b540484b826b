use mathlib.Core.Path.{sym, ◌∙◌}
use native.Mathlib.Omega.{arith}
use Rattle.sets.specs.Sets.{has}
use Rattle.finishes.proofs.Climbing.{time-beyond, within-limit}
use Rattle.finishes.proofs.capacity.Table.time_for.Goals as goal

pub returns-then-limit-own : goal.returns-then-limit-own
returns-then-limit-own c =
    let a = c.args in (
      sym (within-limit a.self (has a.above) a.left.spare a.left.carry a.own a.limit a.before (omega (arith, c.if-limit-gt-LONGEST_TIME.false))
          ∙ time-beyond a.self (has a.above) a.left.spare a.left.carry a.own a.limit a.before c.if-limit-own.true),
      omega arith,
      λ e. absurd (omega arith),
    )
