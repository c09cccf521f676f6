use Rattle.std.proofs.Common.{◌≡◌, drop}
use Rattle.opt_meaning.specs.Pieces.{piece_at}
use Rattle.run_session.proofs.pieces.piece_at.Given as goal

abbrev pub invariant-loop-piece : goal.invariant-loop-piece
invariant-loop-piece l = piece_at (drop l.piece-index l.pieces) l.id ≡ piece_at l.pieces l.id
