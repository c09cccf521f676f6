use Rattle.run_session.proofs.Starts.{Reserving}
use Rattle.run_session.proofs.starting.reserve_for.Given as goal

abbrev pub invariant-loop-piece : goal.invariant-loop-piece
invariant-loop-piece l = Reserving l.piece-index l.image.pieces l.pieces l.fn.rebuilt l.rebuilt
