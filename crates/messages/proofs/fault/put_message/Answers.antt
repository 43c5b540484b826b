use Prim.Native.Nat.{ℕ, ◌-◌}
use mathlib.Core.Path.{ap, ◌∙◌}
use mathlib.Core.List.{List}
use native.Mathlib.Omega.{arith}
use lib.ListN.{length, get_or}
use Rattle.records.specs.Records.{flat}
use Rattle.records.proofs.FixedWidth.{table_at}
use Rattle.writing.specs.Templates.{line_of}
use Rattle.writing.proofs.Writing.{retold, widened, from-template, filled-same}
use Rattle.messages.specs.Faults.{fault_template, fault_numbers}
use Rattle.messages.proofs.Told.{lines_of, faults, fault-told}
use Rattle.messages.proofs.fault.put_message.Goals as goal

pub returns : goal.returns
unfolding lines_of faults flat
returns c =
    let a = c.args in
    let told = fault-told a.fault in
    let wrote = (from-template c.put_line.ensures (ap (line_of (lines_of fault_template faults)) c.fault_line.ensures ∙ told.0)).wrote (omega (arith, told.1)) in
    retold (widened 600 wrote (omega (arith, told.1)))
    (filled-same (fault_template a.fault) c.fault_numbers.result (fault_numbers a.fault) (λ i. ap (λ (l : List ℕ). get_or l i 0) c.fault_numbers.ensures ∙ table_at 0 (fault_numbers a.fault) (2 - length (fault_numbers a.fault)) i))
