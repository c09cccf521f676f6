use Rattle.agreement.proofs.NewObjects.{new_virtual_agrees}
use Rattle.agreement.proofs.objects.new_virtual_agrees.Goals as goal

pub returns : goal.returns
returns c = new_virtual_agrees
