use Rattle.set_in_image.proofs.Bridges.{can_attach}
use Rattle.set_in_image.proofs.laws.attached_can_attach.Goals as goal

pub returns : goal.returns
returns c = can_attach c.equality_decides.ensures.piece_id c.preambles_are_had.ensures
