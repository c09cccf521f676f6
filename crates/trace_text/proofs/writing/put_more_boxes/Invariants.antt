use Rattle.std.proofs.Common.{◌≡◌, ◌++◌, take}
use Rattle.trace_text.specs.Writing.{more_boxes}
use Rattle.trace_text.proofs.writing.put_more_boxes.Given as goal

abbrev pub invariant-loop-of : goal.invariant-loop-of
invariant-loop-of l = l.out.items ≡ l.fn.out.items ++ more_boxes (take l.of-index l.boxes)
