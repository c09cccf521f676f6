use Rattle.agreement.proofs.Spots.{new_shapes}
use Rattle.agreement.proofs.objects.new_shapes.Goals as goal

pub returns : goal.returns
returns c = new_shapes
