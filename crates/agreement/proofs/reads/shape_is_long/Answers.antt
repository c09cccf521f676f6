use Rattle.agreement.proofs.Reading.{shape_is_long}
use Rattle.agreement.proofs.reads.shape_is_long.Goals as goal

pub returns : goal.returns
returns c = shape_is_long
