use Rattle.std.proofs.Common.{drop}
use Rattle.std.specs.List.{AllByRecursion}
use Rattle.set_in_image.specs.Snapshots.{ShapeHasWords}
use Rattle.set_in_image.proofs.snapshots.shapes_have_words.Given as goal

abbrev pub invariant-loop-shape : goal.invariant-loop-shape
invariant-loop-shape l = AllByRecursion ShapeHasWords (drop l.shape-index l.shapes) → AllByRecursion ShapeHasWords l.shapes
