use Rattle.agreement.proofs.Growing.{facts_change}
use Rattle.agreement.proofs.more.facts_change.Goals as goal

pub returns : goal.returns
returns c = facts_change
