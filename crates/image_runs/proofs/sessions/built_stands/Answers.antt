use Rattle.image_runs.proofs.Building.{built_stands}
use Rattle.image_runs.proofs.sessions.built_stands.Goals as goal

pub returns : goal.returns
returns g c = λ x told ps i im z. built_stands (g.T.Selection.model x told) ps i im z
