use Rattle.std.proofs.Common.{◌≡◌, ℕ, ◌<◌, get_or, length, None}
use Rattle.trace_ops.specs.Weights.{parent_at}
use Rattle.trace_ops.proofs.weights.parents_of.Given as goal

abbrev pub invariant-loop-k : goal.invariant-loop-k
invariant-loop-k l = (length l.parents ≡ 256) × ((j : ℕ) → j < l.k → get_or l.parents j None ≡ parent_at l.set j)
