use Rattle.agreement.proofs.NewObjects.{zeros_are_one}
use Rattle.agreement.proofs.objects.zeros_are_one.Goals as goal

pub returns : goal.returns
returns c = zeros_are_one
