use Rattle.agreement.proofs.Comparing.{virtuals_compare}
use Rattle.agreement.proofs.runs.virtuals_compare.Goals as goal

pub returns : goal.returns
returns c = virtuals_compare
