use Rattle.trace_meaning.specs.Legs.{At}
use Rattle.opt_meaning.proofs.BytesMatch.{bytes-backward, left-bytes}
use Rattle.opt_meaning.proofs.laws.bytes_match.Goals as goal

pub returns-clause-backward : goal.returns-clause-backward
returns-clause-backward c = λ bytes set ps cuts k h most short p vs w q us u z m n room.
    let laws = c.pieces_run.ensures set ps cuts in
    bytes-backward bytes set ps cuts (c.recorded_runs.ensures set cuts).0 laws.0 c.runs_only_add.ensures.objects laws.1 k h (At p vs w) (At q us u) z most short m n room

pub returns-clause-ended : goal.returns-clause-ended
returns-clause-ended c = λ bytes t k p l q x ended not. left-bytes t k (λ p vs w. ⊥) bytes q l x ended.1 not
