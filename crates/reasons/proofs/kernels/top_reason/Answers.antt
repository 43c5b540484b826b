use Prim.Native.Nat.{ℕ}
use mathlib.Core.Path.{◌≡◌, ap, ◌∙◌}
use Rattle.reasons.specs.declared.reason.Sentence.TheVariants.{PriorityOutside}
use Rattle.reasons.specs.Reasons.{reason_of}
use Rattle.reasons.proofs.kernels.top_reason.Goals as goal

pub returns : goal.returns
returns c =
    let a = c.args in
    let said : c.reason_of.result ≡ reason_of PriorityOutside a.at a.kernel.priority.0 c.lowest_top.result a.highest.0 = c.reason_of.ensures in
    said ∙ ap (λ (lowest : ℕ). reason_of PriorityOutside a.at a.kernel.priority.0 lowest a.highest.0) c.lowest_top.ensures
