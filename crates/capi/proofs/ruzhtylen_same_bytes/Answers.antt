use mathlib.Core.Path.{sym, ap, ◌∙◌}
use Rattle.capi.specs.Words.{truth_value}
use Rattle.capi.proofs.ruzhtylen_same_bytes.Goals as goal

pub returns-then-same_bytes : goal.returns-then-same_bytes
returns-then-same_bytes c = sym (ap truth_value (sym c.same_bytes.ensures ∙ c.if-same_bytes.true))

pub returns : goal.returns
returns c = sym (ap truth_value (sym c.same_bytes.ensures ∙ c.if-same_bytes.false))
