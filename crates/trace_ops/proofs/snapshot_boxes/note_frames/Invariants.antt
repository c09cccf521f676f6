use Rattle.std.proofs.Common.{◌≡◌, drop}
use Rattle.std.specs.List.{flat_map}
use Rattle.trace_ops.specs.Parts.{with_boxes, boxes_of_frame}
use Rattle.trace_ops.proofs.snapshot_boxes.note_frames.Given as goal

abbrev pub invariant-loop-frame : goal.invariant-loop-frame
invariant-loop-frame l = with_boxes l.seen.keys (flat_map boxes_of_frame (drop l.frame-index l.frames)) ≡ with_boxes l.initial.seen.keys (flat_map boxes_of_frame l.frames)
