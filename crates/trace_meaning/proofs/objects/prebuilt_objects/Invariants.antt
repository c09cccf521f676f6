use Rattle.std.proofs.Common.{◌≡◌, ◌++◌, map, drop}
use Rattle.trace_meaning.specs.Recorded.{prebuilt_object}
use Rattle.trace_meaning.proofs.objects.prebuilt_objects.Given as goal

abbrev pub invariant-loop-row : goal.invariant-loop-row
invariant-loop-row l = l.objects.items ++ map prebuilt_object (drop l.row-index l.rows) ≡ map prebuilt_object l.rows
