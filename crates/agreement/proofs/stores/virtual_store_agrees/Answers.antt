use Rattle.agreement.proofs.VirtualStore.{virtual_store_agrees}
use Rattle.agreement.proofs.stores.virtual_store_agrees.Goals as goal

pub returns : goal.returns
returns c = virtual_store_agrees
