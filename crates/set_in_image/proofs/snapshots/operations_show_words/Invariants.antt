use Rattle.std.proofs.Common.{drop}
use Rattle.std.specs.List.{AllByRecursion}
use Rattle.set_in_image.specs.Snapshots.{OpShowsWords}
use Rattle.set_in_image.proofs.snapshots.operations_show_words.Given as goal

abbrev pub invariant-loop-op : goal.invariant-loop-op
invariant-loop-op l = AllByRecursion OpShowsWords (drop l.op-index l.ops) → AllByRecursion OpShowsWords l.ops
