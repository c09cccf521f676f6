use Rattle.resume_numbering.proofs.PlacedValues.{rows_hold_snapshots}
use Rattle.resume_numbering.proofs.laws.rows_hold_snapshots.Goals as goal

pub returns : goal.returns
returns c = rows_hold_snapshots
