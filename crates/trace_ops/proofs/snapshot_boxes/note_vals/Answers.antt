use Rattle.trace_ops.proofs.WithBoxes.{noted_all, noted_more}
use Rattle.trace_ops.specs.Parts.{boxes_of_val}
use Rattle.trace_ops.proofs.snapshot_boxes.note_vals.Goals as goal

pub returns : goal.returns
returns c = noted_all boxes_of_val c.args.vals.now c.loop-val.val-index _ _ c.loop-val-test.false c.loop-val.invariant

pub loop-val-preserved : goal.loop-val-preserved
loop-val-preserved c =
    noted_more boxes_of_val c.args.vals.now c.loop-val.val-index _ c.loop-val.seen.keys c.note_val.new.seen.keys _ c.loop-val-test.true c.in_ok-note_val.ensures c.loop-val.invariant
