use Rattle.std.proofs.Common.{◌≡◌, drop}
use Rattle.arena_world.specs.Answering.{stores_put}
use Rattle.arena_world.proofs.answering.do_stores.Given as goal

abbrev pub invariant-loop-store : goal.invariant-loop-store
invariant-loop-store l = stores_put l.table l.references (drop l.store-index l.stores) l.arena ≡ stores_put l.table l.references l.stores l.initial.arena
