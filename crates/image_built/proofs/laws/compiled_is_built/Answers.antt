use Rattle.image_built.proofs.Standing.{compiled_is_built}
use Rattle.image_built.proofs.laws.compiled_is_built.Goals as goal

pub returns : goal.returns
returns g c = λ x. compiled_is_built (g.T.Hosted.host x) (c.compiled_stands.ensures x) (c.compiled_begins.ensures x)
