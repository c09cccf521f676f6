use Rattle.std.specs.Prelude.{[]}
use Rattle.image_runs.proofs.Following.{event_keeps}
use Rattle.image_runs.proofs.Steadying.{pieces_steady}
use Rattle.image_runs.proofs.events.event_keeps.Goals as goal

pub returns : goal.returns
returns g c = λ x told i bs rows b old new quiet image. event_keeps c.lower_laws.ensures (g.T.Selection.model x told) quiet (pieces_steady (g.T.Selection.model x told).set (g.T.Selection.model x told).pieces []) i bs rows image b old new
