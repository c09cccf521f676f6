use Rattle.std.proofs.Common.{◌≡◌}
use Rattle.trace_ops.specs.Rules.{known_before}
use Rattle.trace_check.proofs.Walking.{HoldUpTo}
use Rattle.trace_check.proofs.walk.walk.Given as goal

abbrev pub invariant-loop-k : goal.invariant-loop-k
invariant-loop-k l = (l.seen ≡ known_before l.trace l.k) × HoldUpTo l.set l.i l.trace l.k
