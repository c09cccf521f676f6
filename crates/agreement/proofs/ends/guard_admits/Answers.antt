use Rattle.agreement.proofs.Entering.{guard_admits}
use Rattle.agreement.proofs.ends.guard_admits.Goals as goal

pub returns : goal.returns
returns c = guard_admits c.equality_decides.ensures.box
