use Rattle.x64_encode.proofs.Appended.{one_listing_only}
use Rattle.x64_encode.proofs.laws.one_listing.Goals as goal

pub returns : goal.returns
returns c = one_listing_only
