use Rattle.heap_shape.proofs.RootsAlong.{same_roots}
use Rattle.heap_shape.proofs.laws.same_calls_have_the_same_roots.Goals as goal

pub returns : goal.returns
returns c = same_roots
