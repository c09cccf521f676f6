use Rattle.agreement.proofs.Performs.{overflows_alike}
use Rattle.agreement.proofs.runs.overflows_alike.Goals as goal

pub returns : goal.returns
returns c = overflows_alike
