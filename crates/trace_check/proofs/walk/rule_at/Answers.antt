use Rattle.trace_check.proofs.Walking.{one_more, all_hold}
use Rattle.trace_check.proofs.walk.rule_at.Goals as goal

pub loop-number-preserved : goal.loop-number-preserved
loop-number-preserved c = one_more c.args.set.now c.args.i c.args.trace.now c.args.k c.loop-number.number c.numbered-rule.result c.loop-number.invariant c.numbered-rule.ensures (c.holds.ensures.0 c.if-not-holds.false)

pub returns : goal.returns
returns c = all_hold c.args.set.now c.args.i c.args.trace.now c.args.k c.loop-number.number c.loop-number-test.false c.loop-number.invariant
