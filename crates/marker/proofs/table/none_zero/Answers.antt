use Prim.Native.Nat.{ℕ, ◌<◌, ◌≤◌}
use mathlib.Core.Path.{◌≡◌, sym, ap, ◌∙◌}
use mathlib.Core.Bool.{Bool, true, false}
use mathlib.Core.List.{List}
use native.Mathlib.Omega.{arith}
use lib.Dec.{ltb}
use lib.ListN.{length, get_or, take}
use lib.Seq.{get_or-take, length-take-le}
use borrow.Author.Tests.{tests, lt-ltb, le-ltb}
use Rattle.std.specs.Bool.{MatchBool}
use Rattle.std.specs.List.{AllWithin, HoldsAt}
use Rattle.std.proofs.lemmas.Iterator.{YieldsList-from_slice, cases_from_all}
use Rattle.sets.specs.Places.{every}
use Rattle.sets.proofs.Places.{every_of, every-stop}
use Rattle.records.specs.Limits.{most_jobs}
use borrow.Author.Rules.{rules}
use Rattle.marker.proofs.table.none_zero.Goals as goal

-- What the chain says of the first entries of a list, as a test at each place.
from-chain : (bounds : List ℕ) (n : ℕ) → n ≤ length bounds → (b : Bool)
    → MatchBool b (AllWithin (λ x. 0 < x) (take n bounds) 0 (length (take n bounds))) ((k : ℕ) × (k < length (take n bounds)) × HoldsAt (λ x. x ≡ 0) (take n bounds) k)
    → b ≡ every (λ i. ltb 0 (get_or bounds i 0)) n
from-chain bounds n h true all =
    sym (every_of (λ i. ltb 0 (get_or bounds i 0)) n (λ i l. lt-ltb 0 (get_or bounds i 0)
    (omega (arith, all i 0 (omega arith) (omega (arith, length-take-le n bounds h)), get_or-take n bounds i 0 l))))
from-chain bounds n h false some =
    let l : some.0 < n = omega (arith, some.1, length-take-le n bounds h) in
    sym (every-stop (λ i. ltb 0 (get_or bounds i 0)) n some.0 l (le-ltb 0 (get_or bounds some.0 0) (omega (arith, some.2 0, get_or-take n bounds some.0 0 l))))

pub returns : goal.returns
returns c =
    let a = c.args in
    let count = c.at_most-count.result in
    let size : length a.bounds ≡ most_jobs = search rules in
    from-chain a.bounds count (omega (arith, size, c.at_most-count.ensures)) c.all.result
    (cases_from_all _ _ _ (λ x. 0 < x) (λ x. x ≡ 0) c.all.ensures.ran (YieldsList-from_slice (take count a.bounds) (search rules)) (λ x q k. search (rules, tests)) (λ x q k. search (rules, tests)))
    ∙ ap (every (λ i. ltb 0 (get_or a.bounds i 0))) c.at_most-count.ensures
