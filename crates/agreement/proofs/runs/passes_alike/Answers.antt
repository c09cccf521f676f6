use Rattle.agreement.proofs.Guarding.{passes_alike}
use Rattle.agreement.proofs.runs.passes_alike.Goals as goal

pub returns : goal.returns
returns c = passes_alike
