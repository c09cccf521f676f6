use Rattle.trace_ops.specs.Parts.{boxes_of_arg}
use Rattle.linear_scan.proofs.Marks.{Marking}
use Rattle.linear_scan.proofs.marking.mark_args.Given as goal

abbrev pub invariant-loop-arg : goal.invariant-loop-arg
invariant-loop-arg l = Marking boxes_of_arg l.k l.args l.initial.tos l.arg-index l.tos
