use Rattle.opt_set.proofs.Whole.{are_made}
use Rattle.opt_set.proofs.laws.pieces_are_made.Goals as goal

pub returns : goal.returns
returns c = are_made c.equality_decides.ensures.piece_id c.guards_fit_their_trace.ensures
