use Rattle.trace_meaning.proofs.HoldingOperations.{DoneHolds-perform}
use Rattle.trace_meaning.proofs.laws.operations_keep_kinds.Goals as goal

pub returns : goal.returns
returns c = λ t w operation d args vs h ha hd hv. DoneHolds-perform t w h operation d args vs ha hd hv
