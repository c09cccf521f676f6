use Rattle.agreement.proofs.Spots.{shapes_have_spots}
use Rattle.agreement.proofs.objects.shapes_have_spots.Goals as goal

pub returns : goal.returns
returns c = shapes_have_spots
