use Prim.Native.Nat.{ℕ}
use mathlib.Core.Path.{◌≡◌, sym, ◌∙◌, ap, ap₂}
use lib.Dec.{ltb}
use borrow.Author.Tests.{not-true, not-false}
use Rattle.sets.specs.Places.{list_of}
use Rattle.sets.specs.Sets.{has}
use Rattle.search.specs.Search.{bound_by, no_quanta}
use Rattle.search.proofs.Dropping.{drops-out, drops-idle, drops-by}
use Rattle.search.proofs.unassignable.is_dropped.Goals as goal

pub returns-then-not-contains : goal.returns-then-not-contains
returns-then-not-contains c =
    let a = c.args in
    sym (drops-out a.workload a.set a.job (sym c.contains.ensures ∙ not-true c.contains.result c.if-not-contains.true-raw))

pub returns-then-entry-eq0 : goal.returns-then-entry-eq0
returns-then-entry-eq0 c =
    let a = c.args in
    sym (drops-idle a.workload a.set a.job (sym c.contains.ensures ∙ not-false c.contains.result c.if-not-contains.false-raw) c.if-entry-eq0.true)

pub returns : goal.returns
unfolding list_of
returns c =
    let a = c.args in
    let found : c.bound.result ≡ bound_by a.workload no_quanta (has c.single-alone.result) (has c.remove-others.result) a.job = c.bound.ensures in
    ap (ltb 0)
    (found
    ∙ ap₂ (λ (x y : ℕ). bound_by a.workload no_quanta (has x) (has y) a.job) c.single-alone.ensures c.remove-others.ensures)
    ∙ sym (drops-by a.workload a.set a.job (sym c.contains.ensures ∙ not-false c.contains.result c.if-not-contains.false-raw) c.if-entry-eq0.false)
