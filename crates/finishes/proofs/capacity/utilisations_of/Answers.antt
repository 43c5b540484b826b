use Prim.Native.Nat.{ℕ}
use mathlib.Core.Path.{◌≡◌, refl, ◌∙◌, ap}
use native.Mathlib.Omega.{arith}
use lib.ListN.{length}
use Rattle.sets.specs.Places.{list_of}
use Rattle.sets.proofs.Places.{list_length}
use Rattle.records.specs.Limits.{most_jobs}
use Rattle.records.specs.Records.{table}
use Rattle.records.specs.Jobs.{job_at}
use Rattle.records.proofs.FixedWidth.{list-next, table-full}
use Rattle.finishes.specs.Finishes.{utilisation}
use borrow.Author.Rules.{rules}
use Rattle.finishes.proofs.capacity.utilisations_of.Goals as goal

pub loop-i-init : goal.loop-i-init
unfolding list_of
loop-i-init c = refl

pub loop-i-preserved : goal.loop-i-preserved
loop-i-preserved c =
    let l = c.loop-i in
    let a = c.args in
    list-next (λ k. utilisation (job_at a.jobs k)) most_jobs l.i 0 l.utilisations c.utilisation.result (search rules) l.invariant c.utilisation.ensures.0

pub returns : goal.returns
returns c =
    let a = c.args in
    let l = c.loop-i in
    let f : ℕ → ℕ = λ k. utilisation (job_at a.jobs k) in
    let eight : length a.jobs ≡ most_jobs = search rules in
    let e : l.i ≡ length a.jobs = omega arith in
    l.invariant ∙ ap (λ (n : ℕ). table most_jobs 0 (list_of f n)) e ∙ table-full most_jobs 0 (list_of f (length a.jobs)) (list_length f (length a.jobs) ∙ eight)
