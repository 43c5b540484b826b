use mathlib.Core.Path.{◌≡◌, ap, ◌∙◌}
use native.Mathlib.Omega.{arith}
use lib.ListN.{length, take}
use lib.Seq.{get_or-take, length-take-le}
use Rattle.sets.specs.Sets.{Set}
use Rattle.sets.proofs.Members.{collect-none, collect-in, collect-out}
use Rattle.records.specs.Limits.{most_jobs}
use Rattle.configuration.specs.declared.setting.Setting.{Setting}
use Rattle.configuration.specs.Settings.{blank_setting}
use Rattle.marker.specs.Relations.{standing, stands}
use borrow.Author.Rules.{rules}
use Rattle.marker.proofs.levels.level_set.Goals as goal
use Rattle.marker.proofs.levels.level_set.Goals.{then-stands, else-stands, After-at_most-count}

-- The entries that the loop goes through.
size : (c : After-at_most-count) → length (take c.at_most-count.result c.args.settings) ≡ c.at_most-count.result
size c =
    let long : length c.args.settings ≡ most_jobs = search rules in
    length-take-le c.at_most-count.result c.args.settings (omega (arith, c.at_most-count.ensures))

pub loop-i-init : goal.loop-i-init
loop-i-init c = collect-none _

pub loop-i-preserved : goal.loop-i-preserved
loop-i-preserved c =
    let l = c.loop-i in
    let a = c.args in
    let count = c.at_most-count.result in
    let set : Set = stands a.relation a.settings a.level in
    let own = get_or-take count a.settings l.i blank_setting (omega (arith, size (goal.at.loop-i-preserved c).After-at_most-count)) in
    let test : c.stands.result ≡ set l.i = c.stands.ensures ∙ ap (λ (s : Setting). standing a.relation s.level a.level) own in
    elim c.if-stands.branch [ then-stands w ↦ collect-in l.i set l.set l.invariant test (omega (arith, size (goal.at.loop-i-preserved c).After-at_most-count, c.at_most-count.ensures)) w.if-stands.true c.if-stands.set (w.set-is ∙ w.insert-set.ensures) | else-stands w ↦ collect-out l.i set l.set l.invariant test w.if-stands.false c.if-stands.set w.set-is ]
