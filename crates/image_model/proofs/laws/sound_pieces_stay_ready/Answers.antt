use Rattle.image_model.proofs.Staying.{sound_stays}
use Rattle.image_model.proofs.laws.sound_pieces_stay_ready.Goals as goal

pub returns : goal.returns
returns c = λ set label_of p vs w range sound h. sound_stays c.equality_decides.ensures.box c.operations_keep_kinds.ensures set label_of p vs w range sound h
