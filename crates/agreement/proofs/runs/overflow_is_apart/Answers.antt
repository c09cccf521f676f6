use Rattle.agreement.proofs.Performs.{overflow_is_apart}
use Rattle.agreement.proofs.runs.overflow_is_apart.Goals as goal

pub returns : goal.returns
returns c = overflow_is_apart
