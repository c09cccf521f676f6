use Rattle.std.proofs.Common.{◌≡◌, ◌+◌, ◌<◌, ◌^◌, drop, sum_by}
use Rattle.trace_ops.specs.Weights.{operation_weight, capped}
use Rattle.trace_ops.proofs.weights.own_of.Given as goal

abbrev pub invariant-loop-op : goal.invariant-loop-op
invariant-loop-op l = (l.total < 2 ^ 64) × (capped (l.total + sum_by (operation_weight l.sizes) (drop l.op-index l.ops)) ≡ capped (sum_by (operation_weight l.sizes) l.ops))
