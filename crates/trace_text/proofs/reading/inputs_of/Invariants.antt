use Rattle.std.proofs.Common.{◌≡◌, ◌++◌, drop, map}
use Rattle.trace_text.specs.Draft.{input_of}
use Rattle.trace_text.proofs.reading.inputs_of.Given as goal

abbrev pub invariant-loop-value : goal.invariant-loop-value
invariant-loop-value l = l.inputs.items ++ map input_of (drop l.value-index l.values) ≡ map input_of l.values
