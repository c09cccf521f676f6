use Rattle.std.proofs.Common.{◌≡◌, drop}
use Rattle.std.specs.List.{flat_map}
use Rattle.trace_ops.specs.Parts.{with_boxes, boxes_of_val}
use Rattle.trace_ops.proofs.snapshot_boxes.note_vals.Given as goal

abbrev pub invariant-loop-val : goal.invariant-loop-val
invariant-loop-val l = with_boxes l.seen.keys (flat_map boxes_of_val (drop l.val-index l.vals)) ≡ with_boxes l.initial.seen.keys (flat_map boxes_of_val l.vals)
