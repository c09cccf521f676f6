use Rattle.std.proofs.Common.{◌≡◌, ◌++◌, drop}
use Rattle.heap_shape.specs.Listing.{cells}
use Rattle.heap_shape.proofs.walk.cells.Given as goal

abbrev pub invariant-loop-object : goal.invariant-loop-object
invariant-loop-object l = l.made.items ++ cells l.objects l.visits.order.items (drop l.object-index l.visits.order.items) ≡ cells l.objects l.visits.order.items l.visits.order.items
