use Rattle.gate.proofs.gate_plan.Goals as goal

pub returns : goal.returns
returns c = c.plan_within.ensures
