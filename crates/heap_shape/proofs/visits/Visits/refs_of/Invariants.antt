use Rattle.std.proofs.Common.{◌≡◌, ◌++◌, map, drop}
use Rattle.heap_shape.specs.Visiting.{AllVisited}
use Rattle.heap_shape.specs.Listing.{ref_of}
use Rattle.heap_shape.proofs.visits.Visits.refs_of.Given as goal

abbrev pub invariant-loop-value : goal.invariant-loop-value
invariant-loop-value l = record {
  made : l.refs.items ++ map (ref_of l.self.order.items) (drop l.value-index l.values) ≡ map (ref_of l.self.order.items) l.values;
  visited : AllVisited l.self.order.items (drop l.value-index l.values);
}
