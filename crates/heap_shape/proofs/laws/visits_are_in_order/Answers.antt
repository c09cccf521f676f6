use Rattle.heap_shape.proofs.InOrder.{visits_in_order}
use Rattle.heap_shape.proofs.laws.visits_are_in_order.Goals as goal

pub returns : goal.returns
returns c = visits_in_order
