use Rattle.std.proofs.Common.{◌≡◌, ◌++◌, drop, map}
use Rattle.trace_text.specs.Meaning.{arg_of}
use Rattle.trace_text.proofs.meaning.args_of.Given as goal

abbrev pub invariant-loop-value : goal.invariant-loop-value
invariant-loop-value l = l.args.items ++ map arg_of (drop l.value-index l.values) ≡ map arg_of l.values
