use Rattle.image_model.proofs.Seams.{guards_hold}
use Rattle.image_model.proofs.laws.guards_hold.Goals as goal

pub returns : goal.returns
returns c = guards_hold c.label_holds.ensures.holds
