use Rattle.std.proofs.Common.{arith, None, length-set, ◌∙◌}
use Rattle.trace_ops.proofs.Filled.{filled_more}
use Rattle.trace_ops.specs.Weights.{parent_at}
use Rattle.trace_ops.proofs.weights.parents_of.Goals as goal

pub loop-k-preserved : goal.loop-k-preserved
loop-k-preserved c = (
  length-set c.loop-k.parents c.loop-k.k c.parent_at.result ∙ c.loop-k.invariant.0,
  filled_more c.loop-k.parents c.loop-k.k c.parent_at.result None (λ j. parent_at c.args.set.now j) (omega arith) c.parent_at.ensures c.loop-k.invariant.1,
)
