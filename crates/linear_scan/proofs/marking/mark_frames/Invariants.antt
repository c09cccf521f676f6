use Rattle.trace_ops.specs.Parts.{boxes_of_frame}
use Rattle.linear_scan.proofs.Marks.{Marking}
use Rattle.linear_scan.proofs.marking.mark_frames.Given as goal

abbrev pub invariant-loop-frame : goal.invariant-loop-frame
invariant-loop-frame l = Marking boxes_of_frame l.k l.frames l.initial.tos l.frame-index l.tos
