use Rattle.std.proofs.Common.{sym}
use Rattle.trace_check.proofs.Walking.{sound_more, well_formed_at}
use Rattle.trace_check.proofs.walk.fault_from.Goals as goal

pub loop-i-preserved : goal.loop-i-preserved
loop-i-preserved c = sound_more c.args.set.now c.loop-i.i c.in-Some.trace.now (sym c.in-Some.ensures) c.loop-i.invariant (rw c.in_default-2.is at c.in_ok-op.ensures)

pub returns : goal.returns
returns c = well_formed_at c.args.set.now c.loop-i.i c.items-i-end.result.now c.items-i-end.ensures c.loop-i-test.false c.loop-i.invariant
