use Rattle.agreement.proofs.Reading.{known_is_read}
use Rattle.agreement.proofs.reads.known_is_read.Goals as goal

pub returns : goal.returns
returns c = known_is_read
