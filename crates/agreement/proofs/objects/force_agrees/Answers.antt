use Rattle.agreement.proofs.Force.{force_agrees}
use Rattle.agreement.proofs.objects.force_agrees.Goals as goal

pub returns : goal.returns
returns c = force_agrees
