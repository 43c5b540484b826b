use Prim.Native.Nat.{ℕ}
use mathlib.Core.Path.{◌≡◌, refl, sym, ap, ◌∙◌}
use mathlib.Core.Bool.{Bool, cond}
use native.Mathlib.Omega.{arith}
use lib.ListN.{get_or}
use Rattle.sets.specs.Places.{list_of}
use Rattle.sets.specs.Sets.{size}
use Rattle.records.specs.Limits.{most_jobs}
use Rattle.records.specs.Jobs.{job_at}
use Rattle.records.proofs.FixedWidth.{list-next}
use Rattle.configuration.specs.declared.setting.Setting.{Setting}
use Rattle.configuration.specs.Settings.{blank_setting, setting_at}
use Rattle.assignment.specs.Plan.{setting_in}
use Rattle.planner.proofs.levels.settings_with.Invariants.{next-at}
use Rattle.planner.proofs.levels.settings_with.Goals as goal
use Rattle.planner.proofs.levels.settings_with.Goals.{then-contains, else-contains}

pub loop-k-init : goal.loop-k-init
unfolding list_of
loop-k-init c = refl

pub loop-k-preserved : goal.loop-k-preserved
loop-k-preserved c =
    let l = c.loop-k in
    let a = c.args in
    let f = next-at a.question.now a.settings a.level a.set a.quanta in
    let test = c.contains.ensures in
    let id = (job_at a.question.now.workload.jobs l.k).id in
    let quantum = get_or a.quanta l.k 0 in
    let given : Bool → Setting = λ b. cond b (setting_in id a.level (size a.set) quantum) (setting_at a.settings l.k) in
    let value : c.if-contains.next ≡ f l.k = elim c.if-contains.branch [ then-contains w ↦ w.next-is ∙ w.setting_in.ensures ∙ ap (λ (m : ℕ). setting_in id a.level m quantum) c.size-size.ensures ∙ sym (ap given (sym test ∙ w.if-contains.true)) | else-contains w ↦ w.next-is ∙ sym (ap given (sym test ∙ w.if-contains.false)) ]
    in
    list-next f most_jobs l.k blank_setting l.next c.if-contains.next (omega arith) l.invariant value
