use Rattle.trace_ops.specs.Parts.{boxes_of_val}
use Rattle.linear_scan.proofs.Marks.{Marking}
use Rattle.linear_scan.proofs.marking.mark_vals.Given as goal

abbrev pub invariant-loop-val : goal.invariant-loop-val
invariant-loop-val l = Marking boxes_of_val l.k l.vals l.initial.tos l.val-index l.tos
