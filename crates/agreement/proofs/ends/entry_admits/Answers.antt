use Rattle.agreement.proofs.Entering.{entry_admits}
use Rattle.agreement.proofs.ends.entry_admits.Goals as goal

pub returns : goal.returns
returns c = entry_admits c.equality_decides.ensures.box
