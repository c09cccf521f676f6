use Rattle.image_runs.proofs.Settling.{settles}
use Rattle.image_runs.proofs.Steadying.{pieces_steady}
use Rattle.image_runs.proofs.events.operations_settle.Goals as goal

pub returns : goal.returns
returns g c = λ x told i bs rows cuts now calls s todo image. settles c.lower_laws.ensures (g.T.Selection.model x told) i bs rows image cuts (pieces_steady (g.T.Selection.model x told).set (g.T.Selection.model x told).pieces cuts) now calls s todo
