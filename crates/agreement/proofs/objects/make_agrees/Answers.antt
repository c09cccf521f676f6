use Rattle.agreement.proofs.MakeObject.{make_agrees}
use Rattle.agreement.proofs.objects.make_agrees.Goals as goal

pub returns : goal.returns
returns c = make_agrees
