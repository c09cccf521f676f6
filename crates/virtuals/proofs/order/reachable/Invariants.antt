use Rattle.std.proofs.Common.{◌-◌, length}
use Rattle.virtuals.specs.Order.{IsSearch, AreMarks}
use Rattle.virtuals.proofs.order.reachable.Given as goal

abbrev pub invariant-loop-done : goal.invariant-loop-done
invariant-loop-done l = record {
  found : IsSearch l.shapes l.fn.id l.done l.work.items;
  marked : AreMarks l.work.items l.marks.keys;
}

abbrev pub decreases-loop-done : goal.decreases-loop-done
decreases-loop-done l = length l.shapes - l.done
