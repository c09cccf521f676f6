use Rattle.std.proofs.Common.{◌≡◌, ◌+◌, ◌-◌, ◌≤◌, ◌++◌}
use Rattle.arena_world.proofs.Views.{objects_from}
use Rattle.arena_world.proofs.view.Reading.objects.Given as goal

abbrev pub invariant-loop : goal.invariant-loop
invariant-loop l = record {
  objects : l.objects.items ++ objects_from l.self.table.now l.self.arena.now (l.taken - l.counter) l.at ≡ objects_from l.self.table.now l.self.arena.now l.taken 0x10000000;
  low : 0x10000000 ≤ l.at;
  high : l.at ≤ 0x10000000 + l.taken;
}
