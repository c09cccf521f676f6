use Rattle.std.proofs.Common.{◌≡◌, ◌++◌, drop}
use Rattle.heap_shape.specs.Roots.{prebuilt_objects, roots_of_calls}
use Rattle.heap_shape.proofs.observed.roots.Given as goal

abbrev pub invariant-loop-object : goal.invariant-loop-object
invariant-loop-object l = l.roots.items ≡ prebuilt_objects l.object

abbrev pub invariant-loop-call : goal.invariant-loop-call
invariant-loop-call l = l.roots.items ++ roots_of_calls (drop l.call-index l.calls) ≡ prebuilt_objects l.prebuilt ++ roots_of_calls l.calls
