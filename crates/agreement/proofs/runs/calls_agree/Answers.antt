use Rattle.agreement.proofs.Calling.{calls_agree}
use Rattle.agreement.proofs.runs.calls_agree.Goals as goal

pub returns : goal.returns
returns c = calls_agree
