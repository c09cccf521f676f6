use Rattle.opt_meaning.proofs.Short.{pieces-short}
use Rattle.opt_meaning.proofs.laws.legs_are_short.Goals as goal

pub returns : goal.returns
returns c = λ set ps cuts s some each. pieces-short set ps cuts (c.pieces_run.ensures set ps cuts).0 s some each
