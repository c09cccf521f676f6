use Rattle.std.proofs.Common.{◌≡◌, ◌++◌, Some, map, drop}
use Rattle.virtuals.proofs.shapes.copied.Given as goal

abbrev pub invariant-loop-shape : goal.invariant-loop-shape
invariant-loop-shape l = l.out.items ++ map Some (drop l.shape-index l.shapes) ≡ map Some l.shapes
