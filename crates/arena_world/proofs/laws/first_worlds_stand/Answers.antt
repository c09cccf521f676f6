use Rattle.arena_world.proofs.Firsts.{first_bytes}
use Rattle.arena_world.proofs.laws.first_worlds_stand.Goals as goal

pub returns-clause-bytes : goal.returns-clause-bytes
returns-clause-bytes c = first_bytes
