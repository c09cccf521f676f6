use Rattle.image_runs.proofs.Listing.{image_is_listed, places_stay}
use Rattle.image_runs.proofs.attachments.image_is_listed.Goals as goal

pub returns-clause-places : goal.returns-clause-places
returns-clause-places g c = λ x told i bs rows image. image_is_listed c.lower_laws.ensures (g.T.Selection.model x told) i bs rows image

pub returns-clause-stay : goal.returns-clause-stay
returns-clause-stay g c = places_stay
