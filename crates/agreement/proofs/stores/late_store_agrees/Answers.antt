use Rattle.agreement.proofs.LateStore.{late_store_agrees}
use Rattle.agreement.proofs.stores.late_store_agrees.Goals as goal

pub returns : goal.returns
returns c = late_store_agrees
