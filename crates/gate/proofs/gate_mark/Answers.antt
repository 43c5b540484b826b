use Rattle.gate.proofs.gate_mark.Goals as goal

pub returns : goal.returns
returns c = c.mark_within.ensures
