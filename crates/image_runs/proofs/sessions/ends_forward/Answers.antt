use Rattle.std.specs.Prelude.{[]}
use Rattle.image_runs.proofs.Bounds.{forward_bound}
use Rattle.image_runs.proofs.Steadying.{pieces_steady}
use Rattle.image_runs.proofs.sessions.ends_forward.Goals as goal

pub returns : goal.returns
returns g c = λ x told i bs rows b act n q l quiet image active none ends long. forward_bound c.lower_laws.ensures (g.T.Selection.model x told) quiet (pieces_steady (g.T.Selection.model x told).set (g.T.Selection.model x told).pieces []) i bs rows image b act active none n q l ends long
