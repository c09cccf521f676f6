use Rattle.trace_check.proofs.Walking.{SoundUpTo}
use Rattle.trace_check.proofs.walk.fault_from.Given as goal

abbrev pub invariant-loop-i : goal.invariant-loop-i
invariant-loop-i l = SoundUpTo l.set l.i
