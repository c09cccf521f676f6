use Rattle.heap_shape.proofs.CellsInOrder.{cells_are_objects}
use Rattle.heap_shape.proofs.laws.cells_are_objects.Goals as goal

pub returns : goal.returns
returns c = cells_are_objects
