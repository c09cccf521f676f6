use Rattle.std.proofs.Common.{length}
use Rattle.trace_check.proofs.jumps.+fit_inputs.Given as goal

abbrev pub decreases-fit_inputs : goal.decreases-fit_inputs
decreases-fit_inputs l = length l.args.now
