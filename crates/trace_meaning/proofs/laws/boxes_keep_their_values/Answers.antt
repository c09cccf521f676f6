use Rattle.trace_meaning.proofs.BoxLaws.{binding-laws}
use Rattle.trace_meaning.proofs.laws.boxes_keep_their_values.Goals as goal

pub returns : goal.returns
returns c = binding-laws c.equality_decides.ensures.box
