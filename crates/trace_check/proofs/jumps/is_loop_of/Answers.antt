use Rattle.std.proofs.Common.{◌∙◌, sym, ap}
use Rattle.trace_check.proofs.Slots.{kinds}
use Rattle.trace_check.proofs.jumps.is_loop_of.Goals as goal

pub returns-then-is_loop : goal.returns-then-is_loop
returns-then-is_loop c = (λ t. (c.is_loop.ensures.0 c.if-is_loop.true, c.fit_inputs.ensures.0 t ∙ ap kinds c.items.ensures), λ h. c.fit_inputs.ensures.1 (h.1 ∙ sym (ap kinds c.items.ensures)))
