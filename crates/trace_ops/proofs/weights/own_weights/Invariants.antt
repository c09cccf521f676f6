use Rattle.std.proofs.Common.{◌≡◌, ℕ, ◌<◌, get_or, length}
use Rattle.trace_ops.specs.Weights.{own_weight, capped}
use Rattle.trace_ops.proofs.weights.own_weights.Given as goal

abbrev pub invariant-loop-k : goal.invariant-loop-k
invariant-loop-k l = (length l.own ≡ 256) × ((j : ℕ) → j < l.k → get_or l.own j 0 ≡ capped (own_weight l.set j))
