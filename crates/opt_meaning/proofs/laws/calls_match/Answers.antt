use Rattle.trace_meaning.specs.Legs.{At}
use Rattle.opt_meaning.proofs.CallsMatch.{calls-forward, calls-backward}
use Rattle.opt_meaning.proofs.laws.calls_match.Goals as goal

pub returns-clause-forward : goal.returns-clause-forward
returns-clause-forward c = λ set ps cuts k h s short p vs w q us u z n m room.
    let laws = c.pieces_run.ensures set ps cuts in
    calls-forward set ps cuts (c.recorded_runs.ensures set cuts).0 laws.0 c.runs_only_add.ensures.calls laws.1 k h (At p vs w) (At q us u) z s short n m room

pub returns-clause-backward : goal.returns-clause-backward
returns-clause-backward c = λ set ps cuts k h most short p vs w q us u z m n room.
    let laws = c.pieces_run.ensures set ps cuts in
    calls-backward set ps cuts (c.recorded_runs.ensures set cuts).0 laws.0 c.runs_only_add.ensures.calls laws.1 k h (At p vs w) (At q us u) z most short m n room
