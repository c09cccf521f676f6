use Rattle.trace_check.specs.Walking.{HoldBelow}
use Rattle.trace_check.proofs.walk.rule_at.Given as goal

abbrev pub invariant-loop-number : goal.invariant-loop-number
invariant-loop-number l = HoldBelow l.set l.i l.trace l.k l.number
