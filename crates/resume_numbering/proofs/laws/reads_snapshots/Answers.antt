use Rattle.resume_numbering.proofs.UniqueLemmas.{reads_snapshots}
use Rattle.resume_numbering.proofs.laws.reads_snapshots.Goals as goal

pub returns : goal.returns
returns c = reads_snapshots
