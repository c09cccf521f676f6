use Rattle.agreement.proofs.Spots.{spots_lie_apart}
use Rattle.agreement.proofs.objects.spots_lie_apart.Goals as goal

pub returns : goal.returns
returns c = spots_lie_apart
