use Rattle.session_host.proofs.Starting.{starts_hold}
use Rattle.session_host.proofs.laws.starts_hold.Goals as goal

pub returns : goal.returns
returns c = starts_hold c.addresses_are_apart.ensures c.first_worlds_stand.ensures.stand c.first_worlds_stand.ensures.bytes c.label_holds.ensures.holds c.start_fits.ensures
