use Rattle.trace_ops.specs.Parts.{boxes_of_shape}
use Rattle.linear_scan.proofs.Marks.{Marking}
use Rattle.linear_scan.proofs.marking.mark_shapes.Given as goal

abbrev pub invariant-loop-shape : goal.invariant-loop-shape
invariant-loop-shape l = Marking boxes_of_shape l.k l.shapes l.initial.tos l.shape-index l.tos
