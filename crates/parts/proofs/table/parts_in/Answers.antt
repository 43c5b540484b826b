use borrow.Author.Rules.{rules}
use Prim.Native.Nat.{ℕ, min}
use mathlib.Core.Path.{◌≡◌, sym, ap, subst, ◌∙◌}
use mathlib.Core.List.{List}
use native.Mathlib.Omega.{arith}
use lib.ListN.{length, take}
use Rattle.sets.specs.Sets.{has, Collects}
use Rattle.records.specs.Limits.{most_jobs}
use Rattle.configuration.specs.Settings.{level_at}
use Rattle.response.specs.Breakdown.{parts}
use Rattle.marker.specs.Bounds.{layer_of, above_of}
use Rattle.parts.proofs.Placed.{parts-unplaced, parts-code}
use Rattle.parts.proofs.table.parts_in.Goals as goal

pub returns-then-level-eq0 : goal.returns-then-level-eq0
returns-then-level-eq0 c =
    let a = c.args in
    sym (parts-unplaced (take a.n a.workload.jobs) a.settings a.k c.if-level-eq0.true)

pub returns : goal.returns
returns c =
    let above = c.level_set-above in
    let a = c.args in
    let eight : length a.workload.jobs ≡ most_jobs = search rules in
    let cut : min a.n most_jobs ≡ a.n = omega (arith, c.requires.0) in
    let level = level_at a.settings a.k in
    c.parts.ensures
    ∙ ap (λ (q : List ℕ). parts a.workload.jobs q (has c.level_set-layer.result) (has above.result) a.k) c.quanta_of.ensures
    ∙ parts-code a.workload.jobs a.settings a.n a.k (omega (arith, c.requires.0)) c.requires.1 c.level_set-layer.result above.result
    (subst (λ (m : ℕ). Collects m (layer_of a.settings level) c.level_set-layer.result) cut c.level_set-layer.ensures)
    (subst (λ (m : ℕ). Collects m (above_of a.settings level) above.result) cut above.ensures) c.if-level-eq0.false
