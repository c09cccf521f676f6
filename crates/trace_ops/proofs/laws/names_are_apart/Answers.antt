use Rattle.trace_ops.proofs.OpNaming.{names_apart}
use Rattle.trace_ops.proofs.laws.names_are_apart.Goals as goal

pub returns : goal.returns
returns c = names_apart
