use Rattle.std.proofs.Common.{◌≡◌}
use Rattle.recorded_seen.specs.Sessions.{after}
use Rattle.recorded_seen.proofs.sessions.run_for.Given as goal

abbrev pub invariant-loop-left : goal.invariant-loop-left
invariant-loop-left l = after l.left l.run ≡ after l.operations l.fn.run

abbrev pub decreases-loop-left : goal.decreases-loop-left
decreases-loop-left l = l.left
