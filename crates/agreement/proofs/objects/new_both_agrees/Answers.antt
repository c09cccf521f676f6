use Rattle.agreement.proofs.NewObjects.{new_both_agrees}
use Rattle.agreement.proofs.objects.new_both_agrees.Goals as goal

pub returns : goal.returns
returns c = new_both_agrees
