use Rattle.std.proofs.Common.{sym}
use Rattle.trace_check.proofs.Slots.{received}
use Rattle.trace_check.proofs.parents.receives.Goals as goal

pub returns-in-Some : goal.returns-in-Some
returns-in-Some c = received c.args.trace.now.inputs c.items-in-Some.result.now _ c.in-Some.op.now c.items.result.now c.fit_frames.result (sym c.in-Some.ensures) c.items.ensures c.items-in-Some.ensures c.fit_frames.ensures
