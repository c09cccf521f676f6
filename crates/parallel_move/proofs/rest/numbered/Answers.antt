use Rattle.std.proofs.Common.{◌<◌, length, arith}
use Rattle.parallel_move.proofs.NumberLemmas.{numbered_below, numbered_step}
use Rattle.parallel_move.proofs.rest.numbered.Goals as goal

pub loop-k-preserved : goal.loop-k-preserved
loop-k-preserved c =
    let within : c.loop-k.k < length c.args.pairs.now = omega arith in record {
      is_named = numbered_step c.loop-k.names.keys c.number.new.names.keys c.number-in-loop-k.new.names.keys c.in_ok-target.target c.in_ok-source.source c.in_ok-target.ensures.kept c.in_ok-target.ensures.more
          c.in_ok-target.ensures.below c.in_ok-source.ensures.kept c.in_ok-source.ensures.more c.in_ok-source.ensures.below c.loop-k.out.items c.loop-k.invariant.below
          c.args.pairs.now c.loop-k.k _ c.push.new.self.items within c.in_ok-push.ensures.items c.loop-k.invariant.is_named c.in_ok-target.ensures.is c.in_ok-source.ensures.is;
      below = numbered_below c.loop-k.names.keys c.number.new.names.keys c.number-in-loop-k.new.names.keys c.in_ok-target.target c.in_ok-source.source c.in_ok-target.ensures.kept c.in_ok-target.ensures.more
          c.in_ok-target.ensures.below c.in_ok-source.ensures.kept c.in_ok-source.ensures.more c.in_ok-source.ensures.below c.loop-k.out.items c.loop-k.invariant.below c.push.new.self.items c.in_ok-push.ensures.items;
      once = c.in_ok-source.ensures.once;
    }
