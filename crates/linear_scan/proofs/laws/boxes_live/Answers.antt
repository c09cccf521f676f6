use Rattle.linear_scan.proofs.Numbered.{boxes_live}
use Rattle.linear_scan.proofs.laws.boxes_live.Goals as goal

pub returns : goal.returns
returns c = boxes_live
