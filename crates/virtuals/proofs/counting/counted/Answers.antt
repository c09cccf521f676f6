use Rattle.std.proofs.Common.{◌<◌, Some, length, map, take, ◌∙◌, arith}
use Rattle.virtuals.specs.Namings.{namings}
use Rattle.virtuals.proofs.NamingLemmas.{entry_below, count_step, counts_done}
use Rattle.virtuals.proofs.counting.counted.Goals as goal

pub more_each-requires : goal.more_each-requires
more_each-requires c =
    let within : c.loop-k.k < length c.args.shapes.now = omega arith in
    entry_below c.args.shapes.now c.loop-k.counts.items c.loop-k.k c.index-shapes-k.result c.items.result.now c.requires c.loop-k.invariant.count within
    c.items.ensures

pub loop-k-preserved : goal.loop-k-preserved
loop-k-preserved c =
    let within : c.loop-k.k < length c.args.shapes.now = omega arith in record {
      counted = λ m w.
          count_step c.args.shapes.now c.loop-k.counts.items c.more_each.new.counts.items c.loop-k.k c.index-shapes-k.result c.items.result.now m c.items.ensures within
          (c.more_each.ensures.raises m (namings m (map Some (take c.loop-k.k c.args.shapes.now))) (omega (arith, w, c.loop-k.invariant.count)) (c.loop-k.invariant.counted m w));
      count = c.more_each.ensures.len ∙ c.loop-k.invariant.count;
    }

pub returns : goal.returns
returns c = counts_done c.args.shapes.now c.loop-k.counts.items c.loop-k.k (omega arith) c.loop-k.invariant.count c.loop-k.invariant.counted
