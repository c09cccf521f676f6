use Rattle.resume_numbering.proofs.UniqueLemmas.{can_be_read}
use Rattle.resume_numbering.proofs.laws.numbered_can_be_read.Goals as goal

pub returns : goal.returns
returns c = can_be_read
