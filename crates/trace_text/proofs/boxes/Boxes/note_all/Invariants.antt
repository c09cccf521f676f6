use Rattle.std.proofs.Common.{◌≡◌, drop}
use Rattle.trace_ops.specs.Parts.{with_boxes}
use Rattle.trace_text.proofs.boxes.Boxes.note_all.Given as goal

abbrev pub invariant-loop-of : goal.invariant-loop-of
invariant-loop-of l = with_boxes l.self (drop l.of-index l.boxes) ≡ with_boxes l.fn.self l.boxes
