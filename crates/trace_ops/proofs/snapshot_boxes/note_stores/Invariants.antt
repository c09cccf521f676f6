use Rattle.std.proofs.Common.{◌≡◌, drop}
use Rattle.std.specs.List.{flat_map}
use Rattle.trace_ops.specs.Parts.{with_boxes, boxes_of_pending}
use Rattle.trace_ops.proofs.snapshot_boxes.note_stores.Given as goal

abbrev pub invariant-loop-store : goal.invariant-loop-store
invariant-loop-store l = with_boxes l.seen.keys (flat_map boxes_of_pending (drop l.store-index l.stores)) ≡ with_boxes l.initial.seen.keys (flat_map boxes_of_pending l.stores)
