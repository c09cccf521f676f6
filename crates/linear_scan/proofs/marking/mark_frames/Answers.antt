use Rattle.std.proofs.Common.{◌∙◌, ap, sym, subst, length}
use Rattle.std.specs.List.{flat_map}
use Rattle.trace_ops.specs.Parts.{boxes_of_frame, boxes_of_val}
use Rattle.linear_scan.specs.Living.{HaveNumbersBelow}
use Rattle.linear_scan.specs.Marking.{mark}
use Rattle.linear_scan.proofs.Marks.{marking_at, marking_done}
use Rattle.linear_scan.proofs.marking.mark_frames.Goals as goal

pub mark_vals-requires : goal.mark_vals-requires
mark_vals-requires c =
    subst (λ xs. HaveNumbersBelow (length c.loop-frame.tos) (flat_map boxes_of_val xs)) (sym c.items.ensures)
    (marking_at boxes_of_frame c.args.k c.args.frames.now c.args.tos.now c.loop-frame.frame-index c.loop-frame.tos c.frame-item.result c.frame-item.is c.loop-frame-test.true c.loop-frame.invariant)

pub loop-frame-preserved : goal.loop-frame-preserved
loop-frame-preserved c =
    marking_done boxes_of_frame c.args.k c.args.frames.now c.args.tos.now c.loop-frame.frame-index c.loop-frame.tos c.mark_vals.new.tos c.frame-item.result c.frame-item.is c.loop-frame-test.true c.loop-frame.invariant
    (c.mark_vals.ensures ∙ ap (λ xs. mark c.args.k (flat_map boxes_of_val xs) c.loop-frame.tos) c.items.ensures)
