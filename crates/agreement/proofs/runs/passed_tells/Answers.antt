use Rattle.agreement.proofs.Guarding.{passed_tells}
use Rattle.agreement.proofs.runs.passed_tells.Goals as goal

pub returns : goal.returns
returns c = passed_tells
