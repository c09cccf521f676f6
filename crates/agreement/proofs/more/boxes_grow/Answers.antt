use Rattle.agreement.proofs.Growing.{boxes_grow}
use Rattle.agreement.proofs.more.boxes_grow.Goals as goal

pub returns : goal.returns
returns c = boxes_grow
