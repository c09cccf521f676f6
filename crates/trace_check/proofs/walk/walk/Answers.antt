use Rattle.trace_check.proofs.Walking.{is_lacked, hold_more, walked_all}
use Rattle.trace_check.proofs.walk.walk.Goals as goal

pub add_result-requires-clause-new : goal.add_result-requires-clause-new
add_result-requires-clause-new c = is_lacked c.equality_decides.ensures c.args.set.now c.args.i c.args.trace.now c.loop-k.k c.loop-k.seen c.loop-k.invariant.0 c.in_default.ensures

pub loop-k-preserved : goal.loop-k-preserved
loop-k-preserved c = (c.in_ok-add_result.ensures, hold_more c.args.set.now c.args.i c.args.trace.now c.loop-k.k c.loop-k.invariant.1 c.in_default.ensures)

pub returns : goal.returns
returns c = walked_all c.args.set.now c.args.i c.args.trace.now c.loop-k.k c.max-count.result c.items.result.now c.items.ensures c.max-count.ensures c.loop-k-test.false c.loop-k.invariant.1
