use Rattle.heap_shape.proofs.InOrder.{numbers_are_places}
use Rattle.heap_shape.proofs.laws.numbers_are_places.Goals as goal

pub returns : goal.returns
returns c = numbers_are_places
