use Rattle.session_host.proofs.Started.{starts_stand}
use Rattle.session_host.proofs.laws.starts_stand.Goals as goal

pub returns : goal.returns
returns c = starts_stand c.addresses_are_apart.ensures c.first_worlds_stand.ensures.stand c.first_worlds_stand.ensures.bytes
