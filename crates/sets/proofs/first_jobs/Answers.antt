use Prim.Native.Nat.{ℕ, ◌^◌, ◌-◌, min}
use mathlib.Core.Path.{◌≡◌, sym, ap, ◌∙◌}
use native.Mathlib.Omega.{arith}
use lib.Pow.{pow_pos}
use Rattle.sets.specs.Sets.{places, first_jobs}
use Rattle.sets.proofs.Members.{shifted}
use Rattle.sets.proofs.first_jobs.Goals as goal

pub returns-then-count-ge-PLACES : goal.returns-then-count-ge-PLACES
unfolding first_jobs
returns-then-count-ge-PLACES c =
    let e : min c.args.count places ≡ places = omega arith in
    sym (ap (λ (n : ℕ). 2 ^ n - 1) e)

pub overflow_sub-result : goal.overflow_sub-result
overflow_sub-result c = omega (arith, shifted c.args.count c.if-count-ge-PLACES.false, pow_pos c.args.count)

pub returns : goal.returns
unfolding first_jobs
returns c =
    let e : min c.args.count places ≡ c.args.count = omega arith in
    ap (λ (x : ℕ). x - 1) (shifted c.args.count c.if-count-ge-PLACES.false) ∙ sym (ap (λ (n : ℕ). 2 ^ n - 1) e)
