use Rattle.std.proofs.Common.{◌≡◌, ◌-◌, ◌++◌}
use Rattle.arena_objects.specs.ReadBack.{parts_from}
use Rattle.arena_world.proofs.view.Reading.parts.Given as goal

abbrev pub invariant-loop-i : goal.invariant-loop-i
invariant-loop-i l = l.parts.items ++ parts_from l.self.table.now l.self.arena.now l.found l.i (l.found.parts - l.i) ≡ parts_from l.self.table.now l.self.arena.now l.found 0 l.found.parts
