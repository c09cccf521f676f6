use Rattle.trace_meaning.proofs.ProgressGuards.{only-undefined}
use Rattle.trace_meaning.proofs.laws.only_undefined_operations_go_wrong.Goals as goal

pub returns : goal.returns
returns c = only-undefined
