use Rattle.std.proofs.Common.{◌≡◌}
use Rattle.trace_ops.specs.Weights.{sum_below, trace_weight, capped}
use Rattle.trace_ops.proofs.weights.weight.Given as goal

abbrev pub invariant-loop-k : goal.invariant-loop-k
invariant-loop-k l = l.total ≡ capped (sum_below (trace_weight l.set) l.k)
