use Rattle.agreement.proofs.Flush.{both_stores_agree}
use Rattle.agreement.proofs.stores.both_stores_agree.Goals as goal

pub returns : goal.returns
returns c = both_stores_agree
