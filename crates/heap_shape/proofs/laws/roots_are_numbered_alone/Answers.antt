use Rattle.heap_shape.proofs.InOrder.{roots_alone}
use Rattle.heap_shape.proofs.laws.roots_are_numbered_alone.Goals as goal

pub returns : goal.returns
returns c = roots_alone
