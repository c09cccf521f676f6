use Rattle.agreement.proofs.Reading.{reads_alike}
use Rattle.agreement.proofs.reads.reads_alike.Goals as goal

pub returns : goal.returns
returns c = reads_alike
