use Rattle.trace_check.proofs.Slots.{cut, then_rest, else_rest}
use Rattle.trace_check.proofs.parents.+fit_frames.Goals as goal

pub returns-then-fit_inputs : goal.returns-then-fit_inputs
returns-then-fit_inputs t c = then_rest c.args.frames.now _ c.frame-item.result c.items-slots.result.now c.args.inputs.now c.split_at.result.0.now c.split_at.result.1.now c.fit_frames.result (cut c.args.frames.now c.frame-item.result c.in-len1-up.len_at_least c.frame-item.is) c.items-slots.ensures c.split_at.ensures.front c.split_at.ensures.back c.if-inputs-slots.false (c.fit_inputs.ensures.0 c.if-fit_inputs.true) c.fit_frames.ensures

pub returns-else-fit_inputs : goal.returns-else-fit_inputs
returns-else-fit_inputs t c = else_rest c.args.frames.now _ c.frame-item.result c.items-slots.result.now c.args.inputs.now c.split_at.result.0.now c.fit_inputs.result (cut c.args.frames.now c.frame-item.result c.in-len1-up.len_at_least c.frame-item.is) c.items-slots.ensures c.split_at.ensures.front c.if-fit_inputs.false c.fit_inputs.ensures.1
