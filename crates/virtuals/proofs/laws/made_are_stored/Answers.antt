use Rattle.virtuals.proofs.PartLaws.{made_are_stored}
use Rattle.virtuals.proofs.laws.made_are_stored.Goals as goal

pub returns : goal.returns
returns c = made_are_stored
