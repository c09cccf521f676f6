use Rattle.std.proofs.Common.{◌≡◌, ◌++◌, drop}
use Rattle.trace_meaning.specs.Values.{references}
use Rattle.trace_meaning.proofs.calling.references.Given as goal

abbrev pub invariant-loop-value : goal.invariant-loop-value
invariant-loop-value l = l.found.items ++ references (drop l.value-index l.values) ≡ references l.values
