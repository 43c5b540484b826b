use mathlib.Core.Path.{◌≡◌}
use mathlib.Core.Bool.{true}
use Rattle.sets.specs.Places.{every}
use Rattle.configuration.specs.Configuration.{setting_ok}
use Rattle.configuration.proofs.judge.first_faulty.Given as goal

abbrev pub invariant-loop-i : goal.invariant-loop-i
invariant-loop-i l = every (setting_ok l.rule l.count l.jobs l.call.range.low l.call.range.high l.settings) l.i ≡ true
