use Rattle.agreement.proofs.Reading.{part_is_read}
use Rattle.agreement.proofs.reads.part_is_read.Goals as goal

pub returns : goal.returns
returns c = part_is_read
