use Rattle.agreement.proofs.Growing.{facts_grow}
use Rattle.agreement.proofs.more.facts_grow.Goals as goal

pub returns : goal.returns
returns c = facts_grow
