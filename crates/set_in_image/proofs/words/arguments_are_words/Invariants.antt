use Rattle.std.proofs.Common.{drop}
use Rattle.std.specs.List.{AllByRecursion}
use Rattle.trace_ops.specs.Constants.{ArgHasWord}
use Rattle.set_in_image.proofs.words.arguments_are_words.Given as goal

abbrev pub invariant-loop-arg : goal.invariant-loop-arg
invariant-loop-arg l = AllByRecursion ArgHasWord (drop l.arg-index l.args) → AllByRecursion ArgHasWord l.args
