use Rattle.heap_shape.proofs.Along.{same_listing}
use Rattle.heap_shape.proofs.laws.same_heaps_list_alike.Goals as goal

pub returns : goal.returns
returns c = same_listing
