use Rattle.trace_meaning.specs.Legs.{At}
use Rattle.trace_meaning.specs.Recorded.{recorded}
use Rattle.trace_meaning.specs.Sound.{CanBegin}
use Rattle.opt_meaning.specs.Pieces.{pieces}
use Rattle.opt_meaning.proofs.Matching.{legs-forward, legs-backward}
use Rattle.opt_meaning.proofs.CallsMatch.{leg-calls-backward}
use Rattle.opt_meaning.proofs.laws.legs_match.Goals as goal

pub returns-clause-forward : goal.returns-clause-forward
returns-clause-forward c = λ set ps cuts k h p vs w q us u z n r l over not.
    legs-forward set.table (recorded set cuts) (pieces set ps cuts) k (CanBegin set) h (c.recorded_runs.ensures set cuts).0 (c.pieces_run.ensures set ps cuts).0 (At p vs w) (At q us u) z n r l over not

pub returns-clause-backward : goal.returns-clause-backward
returns-clause-backward c = λ set ps cuts k h s short p vs w q us u z n x y ended m room.
    legs-backward set.table (recorded set cuts) (pieces set ps cuts) k (CanBegin set) h (c.recorded_runs.ensures set cuts).0 (c.pieces_run.ensures set ps cuts).0 s short (At p vs w) (At q us u) z n x y ended m room

pub returns-clause-calls : goal.returns-clause-calls
returns-clause-calls c = λ set ps cuts k h s short p vs w q us u z n log longer m room.
    let laws = c.pieces_run.ensures set ps cuts in
    leg-calls-backward set ps cuts (c.recorded_runs.ensures set cuts).0 laws.0 c.runs_only_add.ensures.calls laws.1 k h (At p vs w) (At q us u) z s short n log longer m room
