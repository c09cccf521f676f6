use Rattle.resume_numbering.proofs.UniqueLemmas.{reads_one}
use Rattle.resume_numbering.proofs.laws.reads_one.Goals as goal

pub returns : goal.returns
returns c = reads_one
