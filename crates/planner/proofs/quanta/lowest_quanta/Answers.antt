use Prim.Native.Nat.{ℕ}
use mathlib.Core.Path.{◌≡◌, refl, sym, ap, ◌∙◌}
use mathlib.Core.Bool.{Bool, cond}
use native.Mathlib.Omega.{arith}
use Rattle.sets.specs.Places.{list_of}
use Rattle.sets.specs.Sets.{has}
use Rattle.sets.proofs.Places.{list_length}
use Rattle.records.specs.Limits.{most_jobs}
use Rattle.records.specs.Records.{table}
use Rattle.records.proofs.FixedWidth.{list-next, table-full}
use Rattle.planner.proofs.quanta.lowest_quanta.Goals as goal
use Rattle.planner.proofs.quanta.lowest_quanta.Goals.{then-contains, else-contains}

pub loop-i-init : goal.loop-i-init
unfolding list_of
loop-i-init c = refl

pub loop-i-preserved : goal.loop-i-preserved
loop-i-preserved c =
    let l = c.loop-i in
    let a = c.args in
    let f : ℕ → ℕ = λ k. cond (has a.set k) a.low 0 in
    let test = c.contains.ensures in
    let value : c.if-contains.quantum ≡ f l.i = elim c.if-contains.branch [ then-contains w ↦ w.quantum-is ∙ sym (ap (λ (b : Bool). cond b a.low 0) (sym test ∙ w.if-contains.true)) | else-contains w ↦ w.quantum-is ∙ sym (ap (λ (b : Bool). cond b a.low 0) (sym test ∙ w.if-contains.false)) ]
    in
    list-next f most_jobs l.i 0 l.quantum-items c.if-contains.quantum (omega arith) l.invariant value

pub returns : goal.returns
returns c =
    let l = c.loop-i in
    let a = c.args in
    let f : ℕ → ℕ = λ k. cond (has a.set k) a.low 0 in
    let e : l.i ≡ most_jobs = omega arith in
    l.invariant ∙ ap (λ (n : ℕ). table most_jobs 0 (list_of f n)) e ∙ table-full most_jobs 0 (list_of f most_jobs) (list_length f most_jobs)
