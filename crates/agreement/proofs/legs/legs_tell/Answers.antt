use Rattle.agreement.proofs.TellingLegs.{legs_tell}
use Rattle.agreement.proofs.legs.legs_tell.Goals as goal

pub returns : goal.returns
returns c = legs_tell c.boxes_keep_their_values.ensures c.recorded_runs.ensures
