use Prim.Native.Nat.{ℕ}
use mathlib.Core.Path.{◌≡◌, refl, sym, ap, ◌∙◌}
use mathlib.Core.Bool.{Bool, cond}
use native.Mathlib.Omega.{arith}
use lib.ListN.{get_or}
use Rattle.sets.specs.Places.{list_of}
use Rattle.sets.specs.Sets.{has}
use Rattle.records.specs.Limits.{most_jobs}
use Rattle.records.proofs.FixedWidth.{list-next}
use Rattle.response.specs.Demand.{bound}
use Rattle.planner.specs.Questions.{listed}
use Rattle.planner.proofs.Asked.{asked-bound}
use Rattle.planner.proofs.levels.bounds_with.Invariants.{next-at}
use Rattle.planner.proofs.levels.bounds_with.Goals as goal
use Rattle.planner.proofs.levels.bounds_with.Goals.{then-contains, else-contains}

pub loop-k-init : goal.loop-k-init
unfolding list_of
loop-k-init c = refl

pub loop-k-preserved : goal.loop-k-preserved
loop-k-preserved c =
    let l = c.loop-k in
    let a = c.args in
    let f = next-at a.question.now a.bounds a.set a.above a.quanta in
    let test = c.contains.ensures in
    let given : Bool → ℕ = λ b. cond b (bound (listed a.question.now) a.quanta (has a.set) (has a.above) l.k) (get_or a.bounds l.k 0) in
    let value : c.if-contains.next ≡ f l.k = elim c.if-contains.branch [ then-contains w ↦ w.next-is ∙ w.bound.ensures ∙ asked-bound a.question.now a.set a.above c.requires a.quanta l.k (omega arith) ∙ sym (ap given (sym test ∙ w.if-contains.true)) | else-contains w ↦ w.next-is ∙ sym (ap given (sym test ∙ w.if-contains.false)) ]
    in
    list-next f most_jobs l.k 0 l.next c.if-contains.next (omega arith) l.invariant value
