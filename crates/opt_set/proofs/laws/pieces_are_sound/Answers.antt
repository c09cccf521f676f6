use Rattle.opt_set.proofs.Whole.{are_sound}
use Rattle.opt_set.proofs.laws.pieces_are_sound.Goals as goal

pub returns : goal.returns
returns c = are_sound c.equality_decides.ensures.piece_id c.guards_fit_their_trace.ensures
