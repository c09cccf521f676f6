use Rattle.agreement.proofs.Reading.{read_agrees}
use Rattle.agreement.proofs.reads.read_agrees.Goals as goal

pub returns : goal.returns
returns c = read_agrees
