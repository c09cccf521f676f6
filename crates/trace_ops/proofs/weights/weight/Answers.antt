use Rattle.std.proofs.Common.{◌≡◌, ◌<◌, Some, None, get_or, length, ap, sym, ◌∙◌, arith}
use Rattle.trace_ops.specs.Weights.{capped, along, trace_weight, own_weight, parent_at}
use Rattle.trace_ops.proofs.Capped.{sum_below-none, weighed_more, along-same}
use Rattle.trace_ops.proofs.Parents.{parent_at-below}
use Rattle.trace_ops.proofs.weights.weight.Goals as goal

pub loop-k-init : goal.loop-k-init
loop-k-init c = sym (ap capped (sum_below-none (trace_weight c.args.set.now)))

pub loop-k-preserved : goal.loop-k-preserved
loop-k-preserved c =
    let same : length c.items-count.result.now ≡ length c.args.set.now.traces = ap length c.items-count.ensures in
    let within : c.loop-k.k < 256 = omega arith in
    c.saturating_add-total.ensures
    ∙ weighed_more (trace_weight c.args.set.now) c.loop-k.k c.loop-k.total c.along.result c.loop-k.invariant
    (c.along.ensures
    ∙ along-same (own_weight c.args.set.now) (λ k. get_or c.own_weights-own.result k 0) (parent_at c.args.set.now) (λ k. get_or c.parents_of-parents.result k None) 256
    c.own_weights-own.ensures c.parents_of-parents.ensures (parent_at-below c.args.set.now 256 c.requires) (length c.items-count.result.now) (Some c.loop-k.k) within
    ∙ ap (λ n. capped (along (own_weight c.args.set.now) (parent_at c.args.set.now) n (Some c.loop-k.k))) same)
