use Rattle.agreement.proofs.Growing.{names_grow}
use Rattle.agreement.proofs.more.names_grow.Goals as goal

pub returns : goal.returns
returns c = names_grow c.equality_decides.ensures.box
