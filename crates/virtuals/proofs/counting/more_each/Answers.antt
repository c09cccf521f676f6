use Rattle.std.proofs.Common.{ℕ, ◌+◌, ◌<◌, length, drop, sym, subst, ◌∙◌, arith}
use Rattle.trace_ops.specs.declared.piece.Val.TheVariants as l
use Rattle.virtuals.specs.Order.{AreBelow}
use Rattle.virtuals.proofs.NamingLemmas.{raise_step, raise_done, below-less}
use Rattle.virtuals.proofs.counting.more_each.Goals as goal

pub loop-part-preserved : goal.loop-part-preserved
loop-part-preserved c =
    let parts = c.args.parts.now in let i = c.loop-part.part-index in
    let within : c.loop-part.part-index < length c.args.parts.now = omega arith in record {
      raised = raise_step c.args.counts.now.items c.loop-part.counts.items c.more.new.counts.items parts i _ within c.loop-part.invariant.count c.loop-part.invariant.raised c.more.ensures.raises;
      count = c.more.ensures.len ∙ c.loop-part.invariant.count;
      below = subst (λ (k : ℕ). AreBelow k (drop (c.loop-part.part-index + 1) c.args.parts.now)) (sym c.more.ensures.len)
          (below-less parts i (length c.loop-part.counts.items) (l.Virtual 0) within c.loop-part.invariant.below).1;
    }

pub returns-clause-raises : goal.returns-clause-raises
returns-clause-raises c = λ m n w h. raise_done c.args.parts.now c.loop-part.part-index _ m n (omega arith) (c.loop-part.invariant.raised m n w h)
