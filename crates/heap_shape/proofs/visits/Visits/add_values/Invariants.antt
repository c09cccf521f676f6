use Rattle.std.proofs.Common.{◌≡◌, length, drop}
use Rattle.heap_shape.specs.Visiting.{visit, AreWithin, IsNumbered}
use Rattle.heap_shape.proofs.visits.Visits.add_values.Given as goal

abbrev pub invariant-loop-value : goal.invariant-loop-value
invariant-loop-value l = record {
  order : visit l.self.order.items (drop l.value-index l.values) ≡ visit l.initial.self.order.items l.values;
  count : length l.self.numbers.items ≡ length l.initial.self.numbers.items;
  numbered : IsNumbered l.self.order.items l.self.numbers.items;
  within : AreWithin (length l.self.numbers.items) (drop l.value-index l.values);
}
