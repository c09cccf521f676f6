use Rattle.std.proofs.Common.{◌-◌}
use Rattle.arena_objects.proofs.Addresses.{Halves}
use Rattle.arena_objects.proofs.walked.number_at.Given as goal

abbrev pub invariant-loop-low : goal.invariant-loop-low
invariant-loop-low l = Halves l.addresses l.address l.low l.high

abbrev pub decreases-loop-low : goal.decreases-loop-low
decreases-loop-low l = l.high - l.low
