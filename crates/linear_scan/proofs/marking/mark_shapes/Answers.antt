use Rattle.std.proofs.Common.{◌∙◌, ap, sym, subst, length}
use Rattle.std.specs.List.{flat_map}
use Rattle.trace_ops.specs.Parts.{boxes_of_shape, boxes_of_val}
use Rattle.linear_scan.specs.Living.{HaveNumbersBelow}
use Rattle.linear_scan.specs.Marking.{mark}
use Rattle.linear_scan.proofs.Marks.{marking_at, marking_done}
use Rattle.linear_scan.proofs.marking.mark_shapes.Goals as goal

pub mark_vals-requires : goal.mark_vals-requires
mark_vals-requires c =
    subst (λ xs. HaveNumbersBelow (length c.loop-shape.tos) (flat_map boxes_of_val xs)) (sym c.items.ensures)
    (marking_at boxes_of_shape c.args.k c.args.shapes.now c.args.tos.now c.loop-shape.shape-index c.loop-shape.tos c.shape-item.result c.shape-item.is c.loop-shape-test.true c.loop-shape.invariant)

pub loop-shape-preserved : goal.loop-shape-preserved
loop-shape-preserved c =
    marking_done boxes_of_shape c.args.k c.args.shapes.now c.args.tos.now c.loop-shape.shape-index c.loop-shape.tos c.mark_vals.new.tos c.shape-item.result c.shape-item.is c.loop-shape-test.true c.loop-shape.invariant
    (c.mark_vals.ensures ∙ ap (λ xs. mark c.args.k (flat_map boxes_of_val xs) c.loop-shape.tos) c.items.ensures)
