use Rattle.agreement.proofs.Spots.{items_lie_apart}
use Rattle.agreement.proofs.objects.items_lie_apart.Goals as goal

pub returns : goal.returns
returns c = items_lie_apart
