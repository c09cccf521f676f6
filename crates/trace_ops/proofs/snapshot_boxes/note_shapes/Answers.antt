use Rattle.std.proofs.Common.{List, ap, ◌∙◌}
use Rattle.std.specs.List.{flat_map}
use Rattle.trace_ops.proofs.WithBoxes.{noted_all, noted_more}
use Rattle.trace_ops.specs.declared.piece.Val.{Val}
use Rattle.trace_ops.specs.Parts.{with_boxes, boxes_of_val, boxes_of_shape}
use Rattle.trace_ops.proofs.snapshot_boxes.note_shapes.Goals as goal

pub returns : goal.returns
returns c = noted_all boxes_of_shape c.args.shapes.now c.loop-shape.shape-index _ _ c.loop-shape-test.false c.loop-shape.invariant

pub loop-shape-preserved : goal.loop-shape-preserved
loop-shape-preserved c =
    noted_more boxes_of_shape c.args.shapes.now c.loop-shape.shape-index c.shape-item.result c.loop-shape.seen.keys c.note_vals.new.seen.keys _ c.loop-shape-test.true
    (c.in_ok-note_vals.ensures
    ∙ ap (λ (vals : List Val). with_boxes c.loop-shape.seen.keys (flat_map boxes_of_val vals)) c.items.ensures
    ∙ ap (λ x. with_boxes c.loop-shape.seen.keys (boxes_of_shape x)) c.shape-item.is)
    c.loop-shape.invariant
