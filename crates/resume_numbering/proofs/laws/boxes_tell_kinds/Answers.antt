use Rattle.resume_numbering.proofs.BoxKinds.{boxes_tell_kinds, reads_one_of_boxes}
use Rattle.resume_numbering.proofs.laws.boxes_tell_kinds.Goals as goal

pub returns-clause-kinds : goal.returns-clause-kinds
returns-clause-kinds c = boxes_tell_kinds

pub returns-clause-one : goal.returns-clause-one
returns-clause-one c = reads_one_of_boxes
