use Rattle.x64_encode.proofs.Appended.{listing_appended, whole_appended}
use Rattle.x64_encode.proofs.laws.appending_to_whole.Goals as goal

pub returns-clause-listing : goal.returns-clause-listing
returns-clause-listing c = listing_appended

pub returns-clause-whole : goal.returns-clause-whole
returns-clause-whole c = whole_appended
