use Rattle.image_built.proofs.Served.{arena_hosts_do}
use Rattle.image_built.proofs.hosting.arena_hosts_do.Goals as goal

pub returns : goal.returns
returns c = arena_hosts_do c.hosts_serve.ensures c.starts_stand.ensures c.answers_are_quiet.ensures
