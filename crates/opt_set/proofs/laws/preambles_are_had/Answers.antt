use Rattle.opt_set.proofs.Whole.{have_preambles}
use Rattle.opt_set.proofs.laws.preambles_are_had.Goals as goal

pub returns : goal.returns
returns c = have_preambles c.equality_decides.ensures.piece_id c.guards_fit_their_trace.ensures
