use Rattle.trace_meaning.proofs.Growing.{perform-grows}
use Rattle.trace_meaning.proofs.laws.operations_only_add.Goals as goal

pub returns : goal.returns
returns c = λ t operation d args vs w. perform-grows t operation d args vs w
