use Rattle.std.proofs.Common.{arith, length-set, ◌∙◌}
use Rattle.trace_ops.proofs.Filled.{filled_more}
use Rattle.trace_ops.specs.Weights.{own_weight, capped}
use Rattle.trace_ops.proofs.weights.own_weights.Goals as goal

pub loop-k-preserved : goal.loop-k-preserved
loop-k-preserved c = (
  length-set c.loop-k.own c.loop-k.k c.own_weight.result ∙ c.loop-k.invariant.0,
  filled_more c.loop-k.own c.loop-k.k c.own_weight.result 0 (λ j. capped (own_weight c.args.set.now j)) (omega arith) c.own_weight.ensures c.loop-k.invariant.1,
)
