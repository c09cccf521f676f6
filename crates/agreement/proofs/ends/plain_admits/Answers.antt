use Rattle.agreement.proofs.Entering.{plain_admits}
use Rattle.agreement.proofs.ends.plain_admits.Goals as goal

pub returns : goal.returns
returns c = plain_admits c.equality_decides.ensures.box
