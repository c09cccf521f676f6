use Rattle.trace_meaning.specs.Legs.{At}
use Rattle.trace_meaning.specs.Recorded.{recorded}
use Rattle.trace_meaning.specs.Sound.{CanBegin}
use Rattle.opt_meaning.specs.Pieces.{pieces}
use Rattle.opt_meaning.proofs.Matching.{ends-forward, ends-backward}
use Rattle.opt_meaning.proofs.laws.ends_match.Goals as goal

pub returns-clause-forward : goal.returns-clause-forward
returns-clause-forward c = λ set ps cuts k h s short p vs w q us u z n r l over not m room.
    ends-forward set.table (recorded set cuts) (pieces set ps cuts) k (CanBegin set) h (c.recorded_runs.ensures set cuts).0 (c.pieces_run.ensures set ps cuts).0 s short (At p vs w) (At q us u) z n r l over not m room

pub returns-clause-backward : goal.returns-clause-backward
returns-clause-backward c = λ set ps cuts k h s short p vs w q us u z m x y over n room.
    ends-backward set.table (recorded set cuts) (pieces set ps cuts) k (CanBegin set) h (c.recorded_runs.ensures set cuts).0 (c.pieces_run.ensures set ps cuts).0 s short (At p vs w) (At q us u) z m x y over n room
