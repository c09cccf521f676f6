use Rattle.set_in_image.proofs.Numbers.{are_numbered}
use Rattle.set_in_image.proofs.laws.steps_are_numbered.Goals as goal

pub returns : goal.returns
returns c = are_numbered
