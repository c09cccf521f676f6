use Rattle.opt_meaning.specs.Meeting.{pieces_of}
use Rattle.opt_meaning.proofs.Joining.{composed}
use Rattle.opt_meaning.proofs.laws.meeting_pieces_compose.Goals as goal

pub returns : goal.returns
returns c = λ set ms cuts going meet. composed set ms cuts c.bridges_are_seen.ensures.bridge (c.pieces_run.ensures set (pieces_of ms) cuts).1 going meet
