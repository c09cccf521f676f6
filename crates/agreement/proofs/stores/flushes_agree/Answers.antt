use Rattle.agreement.proofs.Flush.{flushes_agree}
use Rattle.agreement.proofs.stores.flushes_agree.Goals as goal

pub returns : goal.returns
returns c = flushes_agree
