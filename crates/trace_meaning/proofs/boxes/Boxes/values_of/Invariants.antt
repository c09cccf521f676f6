use Rattle.std.proofs.Common.{◌≡◌, drop}
use Rattle.trace_meaning.specs.Boxes.{value_in, arg_value, all_values}
use Rattle.trace_meaning.proofs.Binding.{prepended}
use Rattle.trace_meaning.proofs.boxes.Boxes.values_of.Given as goal

abbrev pub invariant-loop-arg : goal.invariant-loop-arg
invariant-loop-arg l = all_values (arg_value (value_in l.self.values.entries)) l.args ≡ prepended l.values.items (all_values (arg_value (value_in l.self.values.entries)) (drop l.arg-index l.args))
