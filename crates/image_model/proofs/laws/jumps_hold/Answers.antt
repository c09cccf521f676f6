use Rattle.image_model.proofs.Seams.{jumps_hold}
use Rattle.image_model.proofs.laws.jumps_hold.Goals as goal

pub returns : goal.returns
returns c = jumps_hold c.label_holds.ensures.holds c.label_holds.ensures.stands
