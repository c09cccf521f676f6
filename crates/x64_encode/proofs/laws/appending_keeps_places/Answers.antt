use Rattle.x64_encode.proofs.Appended.{stands_appended, leads_appended}
use Rattle.x64_encode.proofs.laws.appending_keeps_places.Goals as goal

pub returns-clause-stands : goal.returns-clause-stands
returns-clause-stands c = stands_appended

pub returns-clause-leads : goal.returns-clause-leads
returns-clause-leads c = leads_appended
