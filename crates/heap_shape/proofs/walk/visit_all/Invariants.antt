use Rattle.std.proofs.Common.{◌≡◌, ◌-◌, length}
use Rattle.heap_shape.specs.Visiting.{walk, visited, IsNumbered}
use Rattle.heap_shape.proofs.walk.visit_all.Given as goal

abbrev pub invariant-loop-done : goal.invariant-loop-done
invariant-loop-done l = record {
  order : walk (length l.objects - l.done) l.objects l.done l.visits.order.items ≡ visited l.objects l.roots;
  count : length l.visits.numbers.items ≡ length l.objects;
  numbered : IsNumbered l.visits.order.items l.visits.numbers.items;
}

abbrev pub decreases-loop-done : goal.decreases-loop-done
decreases-loop-done l = length l.objects - l.done
