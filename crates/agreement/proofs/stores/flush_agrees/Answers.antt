use Rattle.agreement.proofs.Flush.{flush_agrees}
use Rattle.agreement.proofs.stores.flush_agrees.Goals as goal

pub returns : goal.returns
returns c = flush_agrees
