use Rattle.agreement.proofs.Reading.{pending_is_read}
use Rattle.agreement.proofs.reads.pending_is_read.Goals as goal

pub returns : goal.returns
returns c = pending_is_read
