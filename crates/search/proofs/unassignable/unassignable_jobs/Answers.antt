use Prim.Native.Nat.{ℕ, suc, ◌+◌, ◌-◌}
use mathlib.Core.Path.{◌≡◌, sym, ◌∙◌, ap}
use native.Mathlib.Omega.{arith}
use Rattle.search.specs.Search.{drops, drop_again, rounds}
use Rattle.search.proofs.Dropping.{again-out, again-ends, again-on}
use Rattle.search.proofs.unassignable.unassignable_jobs.Goals as goal

pub returns-then-kept-set : goal.returns-then-kept-set
returns-then-kept-set c =
    let l = c.loop in
    let d = drops c.args.workload in
    let more : rounds - l.counter ≡ suc (rounds - (l.counter + 1)) = omega (arith, c.loop-test.true) in
    sym (l.invariant ∙ ap (λ (n : ℕ). drop_again d n l.set) more ∙ again-ends d l.set (rounds - (l.counter + 1)) (sym c.drop_served-kept.ensures ∙ c.if-kept-set.true))

pub loop-preserved : goal.loop-preserved
loop-preserved c =
    let l = c.loop in
    let d = drops c.args.workload in
    let more : rounds - l.counter ≡ suc (rounds - (l.counter + 1)) = omega (arith, c.loop-test.true) in
    l.invariant ∙ ap (λ (n : ℕ). drop_again d n l.set) more
    ∙ again-on d l.set (rounds - (l.counter + 1)) (λ e. c.if-kept-set.false (c.drop_served-kept.ensures ∙ e))
    ∙ ap (drop_again d (rounds - (l.counter + 1))) (sym c.drop_served-kept.ensures)

pub returns : goal.returns
returns c =
    let l = c.loop in
    let d = drops c.args.workload in
    let none : rounds - l.counter ≡ 0 = omega (arith, c.loop-test.false) in
    sym (l.invariant ∙ ap (λ (n : ℕ). drop_again d n l.set) none ∙ again-out d l.set)
