use borrow.Author.Rules.{rules}
use Prim.Native.Nat.{ℕ, min}
use mathlib.Core.Path.{◌≡◌, refl, sym, ap, subst, ◌∙◌}
use mathlib.Core.List.{List}
use native.Mathlib.Omega.{arith}
use lib.ListN.{length, take}
use Rattle.sets.specs.Sets.{has, Collects}
use Rattle.records.specs.Limits.{most_jobs}
use Rattle.configuration.specs.Settings.{level_at}
use Rattle.search.specs.Search.{bound_by}
use Rattle.marker.specs.Bounds.{layer_of, above_of}
use Rattle.marker.proofs.Configured.{bound-unplaced, bound-code}
use Rattle.marker.proofs.levels.bound_of.Goals as goal

pub returns-then-level-eq0 : goal.returns-then-level-eq0
returns-then-level-eq0 c =
    let a = c.args in
    sym (bound-unplaced (take a.n a.workload.jobs) a.settings a.k c.if-level-eq0.true)

pub returns : goal.returns
returns c =
    let above = c.level_set-above in
    let a = c.args in
    let long : length a.workload.jobs ≡ most_jobs = search rules in
    let cut : min a.n most_jobs ≡ a.n = omega (arith, c.requires.0) in
    let level = level_at a.settings a.k in
    c.bound.ensures
    ∙ ap (λ (q : List ℕ). bound_by a.workload q (has c.level_set-layer.result) (has above.result) a.k) c.quanta_of.ensures
    ∙ bound-code a.workload c.requires.2 a.settings a.n a.k (omega arith) c.requires.1 level refl c.level_set-layer.result above.result
    (subst (λ (m : ℕ). Collects m (layer_of a.settings level) c.level_set-layer.result) cut c.level_set-layer.ensures)
    (subst (λ (m : ℕ). Collects m (above_of a.settings level) above.result) cut above.ensures) c.if-level-eq0.false
