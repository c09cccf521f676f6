use Rattle.linear_scan.proofs.Numbered.{numbered_defined}
use Rattle.linear_scan.proofs.laws.numbered_boxes_are_defined.Goals as goal

pub returns : goal.returns
returns c = numbered_defined
