use Rattle.std.proofs.Common.{◌≡◌, drop}
use Rattle.opt_meaning.specs.Pieces.{piece_at, all_pieces}
use Rattle.run_session.proofs.pieces.piece_among.Given as goal

abbrev pub invariant-loop-one : goal.invariant-loop-one
invariant-loop-one l = piece_at (all_pieces (drop l.one-index l.opt)) l.id ≡ piece_at (all_pieces l.opt) l.id
