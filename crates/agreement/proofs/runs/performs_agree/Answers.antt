use Rattle.agreement.proofs.Performs.{performs_agree}
use Rattle.agreement.proofs.runs.performs_agree.Goals as goal

pub returns : goal.returns
returns c = performs_agree
