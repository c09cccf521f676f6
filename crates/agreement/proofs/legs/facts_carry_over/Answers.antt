use Rattle.agreement.proofs.CarryingOver.{facts_carry_over}
use Rattle.agreement.proofs.legs.facts_carry_over.Goals as goal

pub returns : goal.returns
returns c = facts_carry_over
