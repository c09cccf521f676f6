use Rattle.std.proofs.Common.{◌≡◌, ◌+◌, ◌<◌, ◌^◌, drop, sum_by}
use Rattle.trace_ops.specs.Weights.{slots_of, capped}
use Rattle.trace_ops.proofs.weights.slots_in.Given as goal

abbrev pub invariant-loop-frame : goal.invariant-loop-frame
invariant-loop-frame l = (l.total < 2 ^ 64) × (capped (l.total + sum_by slots_of (drop l.frame-index l.frames)) ≡ capped (sum_by slots_of l.frames))
