use Rattle.std.proofs.Common.{drop}
use Rattle.std.specs.List.{AllByRecursion}
use Rattle.opt_meaning.specs.Worded.{OpHasWords}
use Rattle.set_in_image.proofs.words.operations_have_words.Given as goal

abbrev pub invariant-loop-op : goal.invariant-loop-op
invariant-loop-op l = AllByRecursion OpHasWords (drop l.op-index l.ops) → AllByRecursion OpHasWords l.ops
