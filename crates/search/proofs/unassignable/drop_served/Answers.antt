use Prim.Native.Nat.{ℕ, suc, ◌-◌}
use mathlib.Core.Path.{◌≡◌, sym, ◌∙◌, ap}
use native.Mathlib.Omega.{arith}
use Rattle.search.specs.Search.{drops, drop_from}
use Rattle.search.proofs.Dropping.{drop-end, drop-one, drop-keep}
use Rattle.search.proofs.unassignable.drop_served.Goals as goal

pub loop-job-preserved-then-is_dropped : goal.loop-job-preserved-then-is_dropped
loop-job-preserved-then-is_dropped c =
    let l = c.loop-job in
    let d = drops c.args.workload in
    let more : l.job ≡ suc (l.job - 1) = omega (arith, c.loop-job-test.true) in
    l.invariant ∙ ap (λ (n : ℕ). drop_from d n l.kept) more ∙ drop-one d l.kept (l.job - 1) (sym c.is_dropped.ensures ∙ c.if-is_dropped.true)
    ∙ ap (drop_from d (l.job - 1)) (sym c.remove-kept.ensures)

pub loop-job-preserved : goal.loop-job-preserved
loop-job-preserved c =
    let l = c.loop-job in
    let d = drops c.args.workload in
    let more : l.job ≡ suc (l.job - 1) = omega (arith, c.loop-job-test.true) in
    l.invariant ∙ ap (λ (n : ℕ). drop_from d n l.kept) more ∙ drop-keep d l.kept (l.job - 1) (sym c.is_dropped.ensures ∙ c.if-is_dropped.false)

pub returns : goal.returns
returns c =
    let l = c.loop-job in
    let d = drops c.args.workload in
    let none : l.job ≡ 0 = omega (arith, c.loop-job-test.false) in
    sym (l.invariant ∙ ap (λ (n : ℕ). drop_from d n l.kept) none ∙ drop-end d l.kept)
