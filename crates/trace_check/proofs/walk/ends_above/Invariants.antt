use Rattle.std.proofs.Common.{◌≡◌}
use Rattle.trace_ops.specs.Rules.{above}
use Rattle.trace_check.proofs.walk.ends_above.Given as goal

abbrev pub invariant-loop-step : goal.invariant-loop-step
invariant-loop-step l = l.at ≡ above l.set l.i l.step
