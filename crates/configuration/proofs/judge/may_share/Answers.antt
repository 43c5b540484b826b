use mathlib.Core.Path.{sym}
use Rattle.configuration.proofs.Policies.{share-fifo, share-robin, share_other}
use Rattle.configuration.proofs.judge.may_share.Goals as goal

pub returns-then-policy-eq-FIFO : goal.returns-then-policy-eq-FIFO
returns-then-policy-eq-FIFO c = sym (share-fifo _ _ c.if-policy-eq-FIFO.true)

pub returns-then-policy-eq-ROUND_ROBIN : goal.returns-then-policy-eq-ROUND_ROBIN
returns-then-policy-eq-ROUND_ROBIN c = sym (share-robin _ _ c.if-policy-eq-ROUND_ROBIN.true)

pub returns : goal.returns
returns c = sym (share_other _ _ c.if-policy-eq-FIFO.false c.if-policy-eq-ROUND_ROBIN.false)
