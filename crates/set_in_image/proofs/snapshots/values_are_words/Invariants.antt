use Rattle.std.proofs.Common.{drop}
use Rattle.std.specs.List.{AllByRecursion}
use Rattle.set_in_image.specs.Snapshots.{ValHasWord}
use Rattle.set_in_image.proofs.snapshots.values_are_words.Given as goal

abbrev pub invariant-loop-value : goal.invariant-loop-value
invariant-loop-value l = AllByRecursion ValHasWord (drop l.value-index l.values) → AllByRecursion ValHasWord l.values
