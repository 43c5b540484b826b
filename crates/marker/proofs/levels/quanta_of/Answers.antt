use Prim.Native.Nat.{ℕ}
use mathlib.Core.Path.{◌≡◌, refl, ap, ◌∙◌}
use native.Mathlib.Omega.{arith}
use lib.ListN.{length}
use Rattle.sets.specs.Places.{list_of}
use Rattle.sets.proofs.Places.{list_length}
use Rattle.records.specs.Limits.{most_jobs}
use Rattle.records.specs.Records.{table}
use Rattle.records.proofs.FixedWidth.{list-next, table-full}
use Rattle.configuration.specs.Settings.{setting_at}
use borrow.Author.Rules.{rules}
use Rattle.marker.proofs.levels.quanta_of.Goals as goal

pub loop-i-init : goal.loop-i-init
unfolding list_of
loop-i-init c = refl

pub loop-i-preserved : goal.loop-i-preserved
loop-i-preserved c =
    let l = c.loop-i in
    let a = c.args in
    list-next (λ k. (setting_at a.settings k).quantum) most_jobs l.i 0 l.quanta (setting_at a.settings l.i).quantum (omega arith) l.invariant refl

pub returns : goal.returns
returns c =
    let l = c.loop-i in
    let a = c.args in
    let f : ℕ → ℕ = λ k. (setting_at a.settings k).quantum in
    let eight : length a.settings ≡ most_jobs = search rules in
    let e : l.i ≡ length a.settings = omega arith in
    l.invariant ∙ ap (λ (n : ℕ). table most_jobs 0 (list_of f n)) e ∙ table-full most_jobs 0 (list_of f (length a.settings)) (list_length f (length a.settings) ∙ eight)
