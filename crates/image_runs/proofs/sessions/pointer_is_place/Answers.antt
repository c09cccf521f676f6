use Rattle.image_runs.proofs.Listing.{pointer_is_place}
use Rattle.image_runs.proofs.sessions.pointer_is_place.Goals as goal

pub returns : goal.returns
returns g c = λ x told i bs rows b act quiet image active none followed. pointer_is_place c.lower_laws.ensures (g.T.Selection.model x told) i bs rows b act quiet image active none followed
