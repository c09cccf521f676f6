use Rattle.std.proofs.Common.{◌≡◌, ◌++◌, map, drop}
use Rattle.trace_meaning.specs.Recorded.{initial_value}
use Rattle.trace_meaning.proofs.objects.prebuilt_object.Given as goal

abbrev pub invariant-loop-initial : goal.invariant-loop-initial
invariant-loop-initial l = l.parts.items ++ map initial_value (drop l.initial-index l.row.parts) ≡ map initial_value l.row.parts
