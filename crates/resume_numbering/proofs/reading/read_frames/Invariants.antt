use Rattle.resume_numbering.proofs.ReadingLemmas.{Walking, left_at}
use Rattle.resume_numbering.proofs.reading.read_frames.Given as goal

abbrev pub invariant-loop-at : goal.invariant-loop-at
invariant-loop-at l = Walking l.table l.kinds l.row.frame l.at l.frames.items

abbrev pub decreases-loop-at : goal.decreases-loop-at
decreases-loop-at l = left_at l.at
