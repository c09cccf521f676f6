use Rattle.agreement.proofs.Reading.{lengths_alike}
use Rattle.agreement.proofs.reads.lengths_alike.Goals as goal

pub returns : goal.returns
returns c = lengths_alike
