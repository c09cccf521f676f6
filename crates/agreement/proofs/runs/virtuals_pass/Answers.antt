use Rattle.agreement.proofs.Comparing.{virtuals_pass}
use Rattle.agreement.proofs.runs.virtuals_pass.Goals as goal

pub returns : goal.returns
returns c = virtuals_pass
