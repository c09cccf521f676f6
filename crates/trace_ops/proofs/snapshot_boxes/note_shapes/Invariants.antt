use Rattle.std.proofs.Common.{◌≡◌, drop}
use Rattle.std.specs.List.{flat_map}
use Rattle.trace_ops.specs.Parts.{with_boxes, boxes_of_shape}
use Rattle.trace_ops.proofs.snapshot_boxes.note_shapes.Given as goal

abbrev pub invariant-loop-shape : goal.invariant-loop-shape
invariant-loop-shape l = with_boxes l.seen.keys (flat_map boxes_of_shape (drop l.shape-index l.shapes)) ≡ with_boxes l.initial.seen.keys (flat_map boxes_of_shape l.shapes)
