use Rattle.image_runs.proofs.Stepping.{keeps}
use Rattle.image_runs.proofs.Steadying.{pieces_steady}
use Rattle.image_runs.proofs.events.instruction_keeps.Goals as goal

pub returns : goal.returns
returns g c = λ x told i bs rows cuts now calls s todo done image here. keeps c.lower_laws.ensures (g.T.Selection.model x told) i bs rows image cuts here (pieces_steady (g.T.Selection.model x told).set (g.T.Selection.model x told).pieces cuts) now calls s todo done
