use Rattle.image_runs.proofs.Undoing.{undone_is_image}
use Rattle.image_runs.proofs.attachments.undone_is_image.Goals as goal

pub returns : goal.returns
returns g c = λ x told i bs rows keeps by image z. undone_is_image (g.T.Selection.model x told) i bs rows image keeps by z
