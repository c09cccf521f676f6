use Rattle.std.proofs.Common.{drop, length}
use Rattle.std.specs.List.{AllByRecursion}
use Rattle.trace_meaning.specs.declared.value.Object.{Object}
use Rattle.heap_shape.specs.Visiting.{AreWithin, IsClosed}
use Rattle.seen_text.proofs.listed.is_closed.Given as goal

abbrev pub invariant-loop-object : goal.invariant-loop-object
invariant-loop-object l = AllByRecursion (λ (x : Object). AreWithin (length l.objects) x.parts) (drop l.object-index l.objects) → IsClosed l.objects
