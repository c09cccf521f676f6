use Rattle.heap_shape.proofs.RootNumbers.{same_numbers}
use Rattle.heap_shape.proofs.laws.same_calls_have_the_same_numbers.Goals as goal

pub returns : goal.returns
returns c = same_numbers
