use Rattle.trace_ops.specs.Parts.{boxes_of_pending}
use Rattle.linear_scan.proofs.Marks.{Marking}
use Rattle.linear_scan.proofs.marking.mark_stores.Given as goal

abbrev pub invariant-loop-store : goal.invariant-loop-store
invariant-loop-store l = Marking boxes_of_pending l.k l.stores l.initial.tos l.store-index l.tos
