use Rattle.std.proofs.Common.{◌≡◌, drop}
use Rattle.trace_meaning.specs.Answers.{stores_done}
use Rattle.trace_meaning.proofs.calling.make_stores.Given as goal

abbrev pub invariant-loop-store : goal.invariant-loop-store
invariant-loop-store l = record {
  prebuilts : l.world.prebuilts ≡ l.initial.world.prebuilts;
  stores : stores_done l.table l.references (drop l.store-index l.stores) l.world.world ≡ stores_done l.table l.references l.stores l.initial.world.world;
}
