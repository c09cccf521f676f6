use Rattle.std.proofs.Common.{ℕ, ◌+◌, ◌<◌, length, drop, sym, subst, ◌∙◌, arith}
use Rattle.trace_ops.specs.declared.piece.Val.TheVariants as l
use Rattle.virtuals.specs.Order.{AreBelow}
use Rattle.virtuals.proofs.NamingLemmas.{lower_step, lower_done, gone_step, gone_done, below-less}
use Rattle.virtuals.proofs.counting.fewer_each.Goals as goal

pub loop-part-preserved : goal.loop-part-preserved
loop-part-preserved c =
    let parts = c.args.parts.now in let i = c.loop-part.part-index in
    let within : c.loop-part.part-index < length c.args.parts.now = omega arith in record {
      lowered = lower_step c.args.counts.now.items c.loop-part.counts.items c.fewer.new.counts.items parts i _ within c.loop-part.invariant.count c.loop-part.invariant.lowered c.fewer.ensures.lowers;
      exactly = gone_step parts i _ c.loop-part.counts.items c.fewer.new.counts.items _ within c.loop-part.invariant.exactly c.fewer.ensures.exactly;
      count = c.fewer.ensures.len ∙ c.loop-part.invariant.count;
      below = subst (λ (k : ℕ). AreBelow k (drop (c.loop-part.part-index + 1) c.args.parts.now)) (sym c.fewer.ensures.len)
          (below-less parts i (length c.loop-part.counts.items) (l.Virtual 0) within c.loop-part.invariant.below).1;
    }

pub returns-clause-lowers : goal.returns-clause-lowers
returns-clause-lowers c = λ m n w h. lower_done c.args.parts.now c.loop-part.part-index _ m n (omega arith) (c.loop-part.invariant.lowered m n w h)

pub returns-clause-exactly : goal.returns-clause-exactly
returns-clause-exactly c = gone_done c.args.parts.now c.loop-part.part-index c.loop-part.counts.items _ (omega arith) c.loop-part.invariant.exactly
