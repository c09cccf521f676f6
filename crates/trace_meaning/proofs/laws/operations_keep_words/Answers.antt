use Rattle.trace_meaning.proofs.WordSteps.{word-laws}
use Rattle.trace_meaning.proofs.laws.operations_keep_words.Goals as goal

pub returns : goal.returns
returns c = word-laws c.equality_decides.ensures.box
