use Rattle.image_runs.proofs.Calls.{others_stay}
use Rattle.image_runs.proofs.sessions.others_stay.Goals as goal

pub returns : goal.returns
returns c = others_stay
