use Rattle.std.proofs.Common.{◌≡◌, ◌+◌, ◌<◌, length, length-set, get_or, ap, ◌∙◌, arith}
use Rattle.parallel_move.proofs.NumberLemmas.{below_at, target_few, targets_step}
use Rattle.parallel_move.proofs.rest.count_targets.Goals as goal

pub raise-requires-clause-few : goal.raise-requires-clause-few
raise-requires-clause-few c =
    let within : c.loop-k.k < length c.args.pairs.now = omega arith in
    let place = (get_or c.args.pairs.now c.loop-k.k (0, 0)).0 in
    let in' : (get_or c.args.pairs.now c.loop-k.k (0, 0)).0 < length c.loop-k.out.items = omega (arith, (below_at c.args.count c.args.pairs.now c.loop-k.k (0, 0) within c.requires).0, c.loop-k.invariant.count) in
    target_few c.loop-k.out.items c.args.pairs.now c.loop-k.k place (length c.args.pairs.now) (c.loop-k.invariant.counted place in') within

pub loop-k-preserved : goal.loop-k-preserved
loop-k-preserved c =
    let within : c.loop-k.k < length c.args.pairs.now = omega arith in
    let place = (get_or c.args.pairs.now c.loop-k.k (0, 0)).0 in
    let in' : (get_or c.args.pairs.now c.loop-k.k (0, 0)).0 < length c.loop-k.out.items = omega (arith, (below_at c.args.count c.args.pairs.now c.loop-k.k (0, 0) within c.requires).0, c.loop-k.invariant.count) in
    let same : length c.raise.new.counts.items ≡ length c.loop-k.out.items = ap length c.raise.ensures ∙ length-set c.loop-k.out.items place (get_or c.loop-k.out.items place 0 + 1) in record {
      counted = λ j w. targets_step c.loop-k.out.items c.raise.new.counts.items c.args.pairs.now c.loop-k.k (0, 0) j within c.raise.ensures in' (c.loop-k.invariant.counted j (omega (arith, w, same)));
      count = same ∙ c.loop-k.invariant.count;
    }
