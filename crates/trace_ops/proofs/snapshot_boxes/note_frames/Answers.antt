use Rattle.std.proofs.Common.{List, ap, ◌∙◌}
use Rattle.std.specs.List.{flat_map}
use Rattle.trace_ops.proofs.WithBoxes.{noted_all, noted_more}
use Rattle.trace_ops.specs.declared.piece.Val.{Val}
use Rattle.trace_ops.specs.Parts.{with_boxes, boxes_of_val, boxes_of_frame}
use Rattle.trace_ops.proofs.snapshot_boxes.note_frames.Goals as goal

pub returns : goal.returns
returns c = noted_all boxes_of_frame c.args.frames.now c.loop-frame.frame-index _ _ c.loop-frame-test.false c.loop-frame.invariant

pub loop-frame-preserved : goal.loop-frame-preserved
loop-frame-preserved c =
    noted_more boxes_of_frame c.args.frames.now c.loop-frame.frame-index c.frame-item.result c.loop-frame.seen.keys c.note_vals.new.seen.keys _ c.loop-frame-test.true
    (c.in_ok-note_vals.ensures
    ∙ ap (λ (vals : List Val). with_boxes c.loop-frame.seen.keys (flat_map boxes_of_val vals)) c.items.ensures
    ∙ ap (λ x. with_boxes c.loop-frame.seen.keys (boxes_of_frame x)) c.frame-item.is)
    c.loop-frame.invariant
