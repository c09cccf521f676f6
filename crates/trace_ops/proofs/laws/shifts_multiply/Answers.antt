use Rattle.trace_ops.proofs.Shifts.{shift-left}
use Rattle.trace_ops.proofs.laws.shifts_multiply.Goals as goal

pub returns : goal.returns
returns c = shift-left
