use Rattle.agreement.proofs.TellingLegs.{jumps_tell}
use Rattle.agreement.proofs.legs.jumps_tell.Goals as goal

pub returns : goal.returns
returns c = jumps_tell c.boxes_keep_their_values.ensures c.recorded_runs.ensures
