use Rattle.sets.proofs.Table.{table, table-order}
use Rattle.sets.proofs.order.in_order.Goals as goal

pub returns : goal.returns
unfolding table
returns c = table-order
