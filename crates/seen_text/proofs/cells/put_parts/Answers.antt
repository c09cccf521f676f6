use Rattle.seen_text.proofs.PartsText.{stops}
use Rattle.seen_text.proofs.cells.put_parts.Goals as goal

pub returns-in_default : goal.returns-in_default
returns-in_default c = stops c.args.table.now _ _ _ c.loop-field.rest.now c.in_default.ensures.cases c.loop-field.invariant
