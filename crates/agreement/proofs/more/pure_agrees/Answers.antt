use Rattle.agreement.proofs.Growing.{pure_agrees}
use Rattle.agreement.proofs.more.pure_agrees.Goals as goal

pub returns : goal.returns
returns c = pure_agrees c.equality_decides.ensures.box
