use Prim.Native.Nat.{◌+◌}
use Rattle.planner.proofs.Asked.{laid}
use Rattle.planner.proofs.Progressing.{place_is}
use Rattle.planner.proofs.levels.place.Goals as goal

pub bounds_with-bounds_next-requires : goal.bounds_with-bounds_next-requires
bounds_with-bounds_next-requires c =
    let a = c.args in
    laid a.question.now a.progress.left a.choice.set c.requires.0 c.requires.1 c.rest-above.result c.rest-above.ensures

pub returns : goal.returns
returns c =
    let a = c.args in
    place_is a.question.now a.progress a.level a.choice.set a.choice.quanta c.rest-above.result (a.progress.considered + a.choice.considered)
    c.settings_with-settings_next.result c.bounds_with-bounds_next.result c.rest-above.ensures c.settings_with-settings_next.ensures c.bounds_with-bounds_next.ensures
